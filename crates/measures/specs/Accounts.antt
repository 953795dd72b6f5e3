-- Accounts with one of their parts replaced.
use Rattle.measures.specs.declared.holding.Holding.{Holding}
use Rattle.measures.specs.declared.past_record.PastRecord.{PastRecord}
use Rattle.measures.specs.declared.account.Account.{Account}

abbrev pub with_holding : Account → Holding → Account
with_holding a h = record { past = a.past; holding = h }

abbrev pub with_past : Account → PastRecord → Account
with_past a p = record { past = p; holding = a.holding }
