use Rattle.timelines.proofs.timeline.new_account.Goals as goal

pub returns : goal.returns
returns c = record { nothing_held_and_no_past = λ i. record { past = c.new.ensures.starts_with_nothing_at_tick_zero i; holding = c.from.ensures i } }
