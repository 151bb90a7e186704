-- One shape: a renaming that can be undone and under which the tables agree gives it; it goes both ways and can be chained.
-- Assumes nothing.
use mathlib.Core.Path.{◌≡◌, refl, sym, ap, ◌∙◌, subst, subst⁻¹}
use mathlib.Core.Bool.{true}
use mathlib.Core.List.{List, map, map-map}
use Prim.Native.Nat.{ℕ}
use Rattle.pool.specs.Nodes.{parts}
use Rattle.pool.specs.declared.node.Node.{Node}
use Rattle.shape.specs.Shape.{has, rename, Reach, root, part, OneShape}
use Rattle.shape.proofs.Lists.{has_map, of_map, map_same}
use Rattle.shape.proofs.Renaming.{rename_rename, parts_rename, rename_same}

-- what the roots reach in the second table is what they reach in the first, renamed
module _ (p q : ℕ → Node) (roots : List ℕ) (f back : ℕ → ℕ)
    (undo : (i : ℕ) → Reach p roots i → back (f i) ≡ i)
    (agree : (i : ℕ) → Reach p roots i → q (f i) ≡ rename f (p i)) where
  parts_along : (i : ℕ) → Reach p roots i → parts (q (f i)) ≡ map f (parts (p i))
  parts_along i r = ap parts (agree i r) ∙ parts_rename f (p i)

  goes_there : {i : ℕ} → Reach p roots i → Reach q (map f roots) (f i)
  goes_there (root {i = i} h) = root (has_map f roots i h)
  goes_there (part {i = i} {j = j} r h) = part (goes_there r) (subst⁻¹ (λ is. has is (f j) ≡ true) (parts_along i r) (has_map f (parts (p i)) j h))

  comes_from : {j : ℕ} → Reach q (map f roots) j → (i : ℕ) × Reach p roots i × (f i ≡ j)
  comes_from (root {i = j} h) = let r = of_map f roots j h in (r.0, root r.1, r.2)
  comes_from (part {i = y} {j = j} r h) =
      let from = comes_from r in
      let x = from.0 in
      let its_part : has (map f (parts (p x))) j ≡ true = subst (λ is. has is j ≡ true) (ap (λ z. parts (q z)) (sym from.2) ∙ parts_along x from.1) h in
      let found = of_map f (parts (p x)) j its_part in
      (found.0, part from.1 found.1, found.2)

  pub shape_of_lem : OneShape p roots q (map f roots)
  shape_of_lem =
      record {
        there = f;
        back = back;
        there_reached = λ i r. goes_there r;
        back_reached = λ j r. let from = comes_from r in subst (Reach p roots) (sym (undo from.0 from.1) ∙ ap back from.2) from.1;
        back_there = undo;
        there_back = λ j r. let from = comes_from r in ap (λ x. f (back x)) (sym from.2) ∙ ap f (undo from.0 from.1) ∙ from.2;
        roots_pair = refl;
        agree = agree;
      }

  pub shape_of_there : shape_of_lem.there ≡ f
  unfolding shape_of_lem
  shape_of_there = refl

pub shape_sym : {p q : ℕ → Node} {roots others : List ℕ} → OneShape p roots q others → OneShape q others p roots
shape_sym {p} {q} {roots} {others} s =
    record {
      there = s.back;
      back = s.there;
      there_reached = s.back_reached;
      back_reached = s.there_reached;
      back_there = s.there_back;
      there_back = s.back_there;
      roots_pair =
          ap (map s.back) (sym s.roots_pair)
          ∙ map-map s.back s.there roots
          ∙ map_same (λ i. s.back (s.there i)) roots (λ i h. s.back_there i (root h));
      agree = λ j r.
          sym
          (ap (λ x. rename s.back (q x)) (sym (s.there_back j r))
          ∙ ap (rename s.back) (s.agree (s.back j) (s.back_reached j r))
          ∙ rename_rename s.there s.back (p (s.back j))
          ∙ rename_same (λ i. s.back (s.there i)) (p (s.back j)) (λ i h. s.back_there i (part (s.back_reached j r) h)));
    }

pub shape_trans : {p q u : ℕ → Node} {roots others more : List ℕ} → OneShape p roots q others → OneShape q others u more → OneShape p roots u more
shape_trans {p} {q} {u} {roots} s t =
    record {
      there = λ i. t.there (s.there i);
      back = λ j. s.back (t.back j);
      there_reached = λ i r. t.there_reached (s.there i) (s.there_reached i r);
      back_reached = λ j r. s.back_reached (t.back j) (t.back_reached j r);
      back_there = λ i r. ap s.back (t.back_there (s.there i) (s.there_reached i r)) ∙ s.back_there i r;
      there_back = λ j r. ap t.there (s.there_back (t.back j) (t.back_reached j r)) ∙ t.there_back j r;
      roots_pair = sym (map-map t.there s.there roots) ∙ ap (map t.there) s.roots_pair ∙ t.roots_pair;
      agree = λ i r.
          t.agree (s.there i) (s.there_reached i r)
          ∙ ap (rename t.there) (s.agree i r)
          ∙ rename_rename s.there t.there (p i);
    }
