-- The tables of what nodes need: they say of each part what the definitions say, as far as it is counted, so one node more is one entry more.
-- Assumes nothing.
use mathlib.Core.Path.{◌≡◌, sym, ap, ◌∙◌}
use mathlib.Core.List.{List, [], ◌++◌}
use Prim.Native.Nat.{ℕ, ◌+◌, ◌<◌, ◌≤◌, min, max}
use native.Mathlib.Omega.{arith}
use native.Mathlib.Decide.{dec_lt}
use lib.ListN.{length, get_or, length-append}
use Rattle.low_bytes.specs.Output.{past_longest}
use Rattle.pool.specs.declared.node.Node.{Node}
use Rattle.pool.specs.declared.node.Node.TheVariants.{Empty, Variable, Lit, Add, Mul, Div, Exp, Log, Pow, Max}
use Rattle.pool.specs.declared.parts.Parts.{Parts}
use Rattle.pool.specs.declared.parts.Parts.TheVariants.{None, One, Two}
use Rattle.pool.specs.Fold.{under}
use Rattle.pool.specs.Nodes.{parts}
use Rattle.pool.specs.Parts.{parts_in}
use Rattle.pool.specs.Pool.{limit, node_in}
use Rattle.pool.proofs.Folds.{visits, below, above}
use Rattle.walks.proofs.Tables.{none_past_the_limit}
use Rattle.key_strip.specs.Strip.{own_key, node_strip, strip_of, places_for, node_places, places_of, most_places}
use Rattle.strip_write.specs.declared.need.Need.{Need}
use Rattle.strip_write.specs.declared.need.Needs.{Needs}
use Rattle.strip_write.specs.Need.{Needed}
use Rattle.strip_write.specs.Kept.{Kept, NeededBelow}
use Rattle.strip_write.proofs.Strips.{strip_by_parts}

-- a code and what follows it are few bytes
pub own_is_short : (n : Node) → length (own_key n) ≤ 9
own_is_short Empty = omega arith
own_is_short (Variable v) = omega arith
own_is_short (Lit z) = omega arith
own_is_short (Add a b) = omega arith
own_is_short (Mul a b) = omega arith
own_is_short (Div a b) = omega arith
own_is_short (Exp a) = omega arith
own_is_short (Log a) = omega arith
own_is_short (Pow a e) = omega arith
own_is_short (Max a b) = omega arith

module _ {at : ℕ → Node} {i : ℕ} {T : Needs} (f : NeededBelow at i T) where
  module _ {a : ℕ} {need : Need} (k : Kept T i a need) where
    -- a part needs what the definitions say, as far as it is counted
    pub part_places : need.places ≡ min (under 0 (places_of at) i a) (most_places + 1)
    part_places = k.places_are ∙ go (dec_lt a i)
      where
        go : Dec (a < i) → under 0 (λ j. get_or T.places j 0) i a ≡ min (under 0 (places_of at) i a) (most_places + 1)
        go (yes h) = sym (below 0 (λ j. get_or T.places j 0) i a h) ∙ f.places_are a h ∙ ap (λ (x : ℕ). min x (most_places + 1)) (below 0 (places_of at) i a h)
        go (no n) = sym (above 0 (λ j. get_or T.places j 0) i a (omega arith)) ∙ ap (λ (x : ℕ). min x (most_places + 1)) (above 0 (places_of at) i a (omega arith))

    pub part_length : need.length ≡ min (length (under [] (strip_of at) i a)) past_longest
    part_length = k.length_is ∙ go (dec_lt a i)
      where
        go : Dec (a < i) → under 0 (λ j. get_or T.lengths j 0) i a ≡ min (length (under [] (strip_of at) i a)) past_longest
        go (yes h) = sym (below 0 (λ j. get_or T.lengths j 0) i a h) ∙ f.lengths_are a h ∙ ap (λ (x : List ℕ). min (length x) past_longest) (below [] (strip_of at) i a h)
        go (no n) = sym (above 0 (λ j. get_or T.lengths j 0) i a (omega arith)) ∙ ap (λ (x : List ℕ). min (length x) past_longest) (above [] (strip_of at) i a (omega arith))

    -- and a node before number i itself
    pub node_needs : a < i → Needed at a need
    node_needs h =
        record {
          places_are = k.places_are ∙ sym (below 0 (λ j. get_or T.places j 0) i a h) ∙ f.places_are a h;
          length_is = k.length_is ∙ sym (below 0 (λ j. get_or T.lengths j 0) i a h) ∙ f.lengths_are a h;
        }

    pub part_is_counted : (need.places ≤ most_places + 1) × (need.length ≤ past_longest)
    part_is_counted = (omega (arith, part_places), omega (arith, part_length))

  -- n is the node that was read, and p its parts as they were told
  module _ {n : Node} {p : Parts} {own : ℕ} (read : n ≡ at i) (told : parts_in p ≡ parts n) (counted : own ≡ length (own_key n)) where
    places_by : {x : Parts} → p ≡ x → places_of at i ≡ places_for (under 0 (places_of at) i) (parts_in x)
    places_by e =
        visits 0 node_places at i
        ∙ sym (ap (node_places (under 0 (places_of at) i)) read)
        ∙ sym (ap (places_for (under 0 (places_of at) i)) told)
        ∙ ap (λ (y : Parts). places_for (under 0 (places_of at) i) (parts_in y)) e

    pub leaf_needs : {need : Need} → p ≡ None → need.places ≡ 1 → need.length ≡ own → Needed at i need
    leaf_needs e one is =
        record {
          places_are = omega (arith, one, places_by e);
          length_is = omega (arith, is, counted, ap length (strip_by_parts at read told e), own_is_short n);
        }

    pub base_needs : {need base : Need} {a : ℕ} → p ≡ One a → Kept T i a base → need.places ≡ base.places → need.length ≡ min (base.length + own) past_longest → Needed at i need
    base_needs {a = a} e k same is =
        let joined = ap length (strip_by_parts at read told e) ∙ length-append (under [] (strip_of at) i a) (own_key n) in
        record {
          places_are = omega (arith, same, places_by e, part_places k);
          length_is = omega (arith, is, counted, joined, part_length k);
        }

    pub both_need : {need left right : Need} {a b : ℕ} → p ≡ Two a b → Kept T i a left → Kept T i b right
        → need.places ≡ min (max left.places (right.places + 1)) (most_places + 1) → need.length ≡ min (left.length + right.length + own) past_longest → Needed at i need
    both_need {a = a} {b} e k l most is =
        let right = under [] (strip_of at) i b in
        let joined = ap length (strip_by_parts at read told e) ∙ length-append (under [] (strip_of at) i a) (right ++ own_key n) in
        record {
          places_are = omega (arith, most, places_by e, part_places k, part_places l);
          length_is = omega (arith, is, counted, joined, length-append right (own_key n), part_length k, part_length l);
        }

-- past the tables there is no node
pub no_node_needs : (ks ws : List ℕ) {root : ℕ} {need : Need} → limit ≤ root → need.places ≡ 1 → need.length ≡ 1 → Needed (node_in ks ws) root need
no_node_needs ks ws {root} h one byte =
    let at = node_in ks ws in
    let empty = none_past_the_limit ks ws root h in
    record {
      places_are = omega (arith, one, visits 0 node_places at root ∙ ap (node_places (under 0 (places_of at) root)) empty);
      length_is = omega (arith, byte, ap length (visits [] node_strip at root ∙ ap (node_strip (under [] (strip_of at) root)) empty));
    }
