use Rattle.std.proofs.Common.{ℕ, ◌≤◌, List, slice_index, sym, subst}
use Rattle.measures.specs.Sites.{part_due, commitment_in}
use Rattle.measures.specs.Records.{row_most, brought_to}
use Rattle.measures.specs.Bounds.{commitment_in_most}
use Rattle.measures.specs.RecordLaws.{same_past}
use Rattle.measures.proofs.site.Site.bring.Goals as goal

pub invariant_of-result-clause-no_commitment_above_the_whole : goal.invariant_of-result-clause-no_commitment_above_the_whole
invariant_of-result-clause-no_commitment_above_the_whole c s =
    let site = c.args.self.now in
    let account = c.args.account.now in
    let part = part_due site account in
    subst (λ (xs : List ℕ). slice_index xs s ≤ 1048576) (sym c.commitments.ensures.commitment_in_each_supply)
    (row_most (commitment_in site part account c.args.tick) 1048576 (commitment_in_most site part account c.args.tick) s)

pub returns : goal.returns
unfolding brought_to
returns c = record { commitments_at_the_tick_stamped_with_it = same_past _ (brought_to c.args.self.now c.args.account.now c.args.tick) c.commitments.ensures.commitment_in_each_supply c.on_clock.ensures.tick_or_the_end_of_the_clock }
