-- An accepted call that makes a strip: its root was given, reaches no Exp or Log, needs no more than the machine's places, and its strip is what was written.
-- Assumes nothing.
use mathlib.Core.Path.{◌≡◌, refl, ap, ◌∙◌}
use mathlib.Core.Logic.{◌↔◌}
use mathlib.Core.Bool.{Bool, true, false, not, ◌&&◌, false≢true}
use mathlib.Core.List.{List, [], ◌∷◌}
use Prim.Native.Nat.{ℕ, ◌<◌, ◌≤◌}
use lib.Dec.{leb}
use lib.ListN.{length}
use borrow.Author.Tests.{leb-true, le-leb, lt-ltb}
use Rattle.refusals.specs.Refusals.{broken_pool, unknown_node, not_evaluated, no_room, too_many_places}
use Rattle.low_bytes.specs.Output.{longest_text, text_fits}
use Rattle.pool.specs.Nodes.{all_below}
use Rattle.pool.specs.Pool.{Pool, node_at, is_pool}
use Rattle.key_strip.specs.Strip.{strip_of, places_of, most_places, has_exp_or_log}
use Rattle.key_strip.specs.Reached.{ReachesExpOrLog}
use Rattle.key_strip.proofs.ExpOrLogReached.{has_exp_or_log_is_reached}
use Rattle.shape.specs.Demand.{KeepsRules}
use Rattle.shape.proofs.Lists.{not_both, not_true_false}
use Rattle.shape.proofs.Pools.{falls_in}
use Rattle.lent.specs.Call.{demand}
use Rattle.lent.specs.Writing.{unwritten, writes, Accepted, bytes_written}
use Rattle.lent.proofs.Finishing.{one_is_below}
use Rattle.lent.proofs.Writing.{passed, bytes_are_there}
use Rattle.engine_strip.specs.Strips.{strip_call}
use Rattle.engine_strip.specs.Outcome.{strip_from, StripFits}

none_reached : (t : Bool) → not t ≡ true → t ≡ false
none_reached true e = absurd (false≢true e)
none_reached false e = refl

both_true : (a b : Bool) → (a && b) ≡ true → (a ≡ true) × (b ≡ true)
both_true true b e = (refl, e)
both_true false b e = absurd (false≢true e)

module _ (P : Pool) (r : ℕ) (old : List ℕ) where
  abbrev bytes : List ℕ
  bytes = strip_of (node_at P) r

  pub record Strips : Type 0 where
    pub rules : is_pool P.kinds P.words P.count ≡ true
    pub given : r < P.count
    pub reaches_no_exp_or_log : has_exp_or_log (node_at P) r ≡ false
    pub few_places : places_of (node_at P) r ≤ most_places
    pub fits : StripFits P r old
    pub is : strip_from P r old ≡ writes bytes old

  pub accepted_strips : Accepted (strip_from P r old) → Strips
  unfolding strip_call
  accepted_strips a =
      let at = node_at P in
      let sized = demand (unwritten old) (text_fits bytes old) no_room (writes bytes old) in
      let placed = demand (unwritten old) (leb (places_of at r) most_places) too_many_places sized in
      let coded = demand (unwritten old) (not (has_exp_or_log at r)) not_evaluated placed in
      let known = demand (unwritten old) (all_below P.count (r ∷ [])) unknown_node coded in
      let (rules, e₁, a₁) = passed old (is_pool P.kinds P.words P.count) broken_pool known a in
      let (below, e₂, a₂) = passed old (all_below P.count (r ∷ [])) unknown_node coded a₁ in
      let (none, e₃, a₃) = passed old (not (has_exp_or_log at r)) not_evaluated placed a₂ in
      let (few, e₄, a₄) = passed old (leb (places_of at r) most_places) too_many_places sized a₃ in
      let (room, e₅, a₅) = passed old (text_fits bytes old) no_room (writes bytes old) a₄ in
      let (short, long) = both_true (leb (length bytes) longest_text) (leb (length bytes) (length old)) room in
      record {
        rules = rules;
        given = one_is_below P.count r below;
        reaches_no_exp_or_log = none_reached (has_exp_or_log at r) none;
        few_places = leb-true (places_of at r) most_places few;
        fits = (leb-true (length bytes) longest_text short, leb-true (length bytes) (length old) long);
        is = e₁ ∙ e₂ ∙ e₃ ∙ e₄ ∙ e₅;
      }

  pub strip_is_there : Accepted (strip_from P r old) → bytes_written (strip_from P r old) ≡ strip_of (node_at P) r
  strip_is_there a = ap bytes_written (accepted_strips a).is ∙ bytes_are_there bytes old

  -- 16, 27 and 19 each in its situation, and no other refusal: of a pool that keeps the rules and a root in it
  module _ (k : KeepsRules P) (l : r < P.count) where
    no_search : (ReachesExpOrLog (node_at P) r → ⊥) → has_exp_or_log (node_at P) r ≡ false
    no_search none = not_true_false (has_exp_or_log (node_at P) r) (λ e. none ((has_exp_or_log_is_reached (node_at P) (falls_in P k) r).0 e))

    none_there : has_exp_or_log (node_at P) r ≡ false → ReachesExpOrLog (node_at P) r → ⊥
    none_there e there = not_both ((has_exp_or_log_is_reached (node_at P) (falls_in P k) r).1 there) e

    allowed_accepted : (has_exp_or_log (node_at P) r ≡ false) → (places_of (node_at P) r ≤ most_places) → StripFits P r old → Accepted (strip_from P r old)
    unfolding strip_call
    allowed_accepted none few (short, long) =
        rw (k.rules, lt-ltb r P.count l, none, le-leb (places_of (node_at P) r) most_places few, le-leb (length bytes) longest_text short, le-leb (length bytes) (length old) long)
        (length bytes, refl)

    pub strip_accepted_exactly : Accepted (strip_from P r old) ↔ ((ReachesExpOrLog (node_at P) r → ⊥) × (places_of (node_at P) r ≤ most_places) × StripFits P r old)
    strip_accepted_exactly = (
      λ a. let s = accepted_strips a in (none_there s.reaches_no_exp_or_log, s.few_places, s.fits),
      λ (none, few, fits). allowed_accepted (no_search none) few fits,
    )
