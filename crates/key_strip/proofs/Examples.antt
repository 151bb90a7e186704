-- Strips of small expressions in bytes, the places of sums at the machine's limit, and bytes that are no strips, computed from the definitions.
-- Assumes nothing.
use mathlib.Core.Path.{◌≡◌, refl, sym, ap₂, ◌∙◌}
use mathlib.Core.Bool.{true, false}
use mathlib.Core.List.{List, [], ◌∷◌, ◌++◌}
use Prim.Native.Nat.{ℕ, zero, suc, ◌+◌, max}
use native.Mathlib.Omega.{arith}
use lib.IntN.{pos, negsuc}
use lib.ListN.{get_or, replicate}
use Rattle.pool.specs.Fold.{under, fold_nodes_within, fold_nodes}
use Rattle.pool.specs.Nodes.{decode}
use Rattle.pool.specs.declared.node.Node.{Node}
use Rattle.pool.specs.declared.node.Node.TheVariants.{Empty, Variable, Lit, Add, Div, Pow, Max}
use Rattle.pool.proofs.Folds.{visits, below}
use Rattle.key_strip.specs.Strip.{strip_of, node_places, places_of}
use Rattle.key_strip.specs.Machine.{following, key_of, keys_within, keys_of, accepts, is_strip}

-- the nodes of these examples
abbrev pub table : List Node → ℕ → Node
table nodes i = get_or nodes i Empty

-- x0
pub strip_of_a_variable : strip_of (table (Variable 0 ∷ [])) 0 ≡ 1 ∷ 0 ∷ 0 ∷ []
unfolding fold_nodes fold_nodes_within under
strip_of_a_variable = refl

-- 1/3
abbrev pub third : ℕ → Node
third = table (Lit (pos 1) ∷ Lit (pos 3) ∷ Div 0 1 ∷ [])

pub strip_of_a_third : strip_of third 2 ≡ (2 ∷ 1 ∷ replicate 7 0) ++ (2 ∷ 3 ∷ replicate 7 0) ++ (5 ∷ [])
unfolding fold_nodes fold_nodes_within under
strip_of_a_third = refl

pub keys_of_a_third : keys_of (strip_of third 2) ≡ Lit (pos 1) ∷ Lit (pos 3) ∷ Div 1 0 ∷ []
unfolding fold_nodes fold_nodes_within under keys_within following key_of decode
keys_of_a_third = refl

-- x0 + -1: a literal below 0 in two's complement
pub strip_of_a_sum : strip_of (table (Variable 0 ∷ Lit (negsuc 0) ∷ Add 0 1 ∷ [])) 2 ≡ (1 ∷ 0 ∷ 0 ∷ 2 ∷ replicate 8 255) ++ (3 ∷ [])
unfolding fold_nodes fold_nodes_within under
strip_of_a_sum = refl

-- x0^3
pub strip_of_a_power : strip_of (table (Variable 0 ∷ Pow 0 3 ∷ [])) 1 ≡ 1 ∷ 0 ∷ 0 ∷ 8 ∷ 3 ∷ 0 ∷ 0 ∷ 0 ∷ []
unfolding fold_nodes fold_nodes_within under
strip_of_a_power = refl

-- max(x258, x0): the left part first, the low byte first
pub strip_of_a_max : strip_of (table (Variable 0 ∷ Variable 258 ∷ Max 1 0 ∷ [])) 2 ≡ 1 ∷ 2 ∷ 1 ∷ 1 ∷ 0 ∷ 0 ∷ 9 ∷ []
unfolding fold_nodes fold_nodes_within under
strip_of_a_max = refl

-- x0 + (x0 + (.. + x0)), of i sums
pub chain : ℕ → Node
chain zero = Variable 0
chain (suc i) = Add 0 i

pub chain_that_fits : places_of chain 127 ≡ 128
unfolding chain fold_nodes fold_nodes_within under
chain_that_fits = refl

pub chain_too_long : places_of chain 128 ≡ 129
unfolding chain fold_nodes fold_nodes_within under
chain_too_long = refl

pub chain_accepted : is_strip (strip_of chain 127) ≡ true
unfolding chain fold_nodes fold_nodes_within under keys_within following key_of decode accepts
chain_accepted = refl

-- the 129th place
pub chain_refused : is_strip (strip_of chain 128) ≡ false
unfolding chain fold_nodes fold_nodes_within under keys_within following key_of decode accepts
chain_refused = refl

-- sums of a node with itself, of i levels: 2^i leaves, and a place for each level
pub tower : ℕ → Node
tower zero = Variable 0
tower (suc i) = Add i i

pub places_of_a_tower : (i : ℕ) → places_of tower i ≡ i + 1
unfolding tower fold_nodes fold_nodes_within
places_of_a_tower zero = refl
places_of_a_tower (suc i) =
    let part : under 0 (places_of tower) (suc i) i ≡ i + 1 = sym (below 0 (places_of tower) (suc i) i (omega arith)) ∙ places_of_a_tower i in
    visits 0 node_places tower (suc i) ∙ ap₂ (λ m n. max m (n + 1)) part part ∙ greater i
  where
    greater : (i : ℕ) → max (i + 1) (i + 1 + 1) ≡ suc i + 1
    greater i = omega arith

-- no strip: nothing, a code that is unknown
pub no_strips_by_code :
    (is_strip [] ≡ false)
    × (is_strip (0 ∷ []) ≡ false)
    × (is_strip (1 ∷ 0 ∷ 0 ∷ 6 ∷ []) ≡ false)
    × (is_strip (1 ∷ 0 ∷ 0 ∷ 7 ∷ []) ≡ false)
    × (is_strip (1 ∷ 0 ∷ 0 ∷ 10 ∷ []) ≡ false)
    × (is_strip (1 ∷ 5 ∷ 0 ∷ 255 ∷ []) ≡ false)
unfolding keys_within following key_of decode accepts
no_strips_by_code = (refl, refl, refl, refl, refl, refl)

-- what follows a code is cut off
pub no_strips_cut_off :
    (is_strip (1 ∷ 0 ∷ []) ≡ false)
    × (is_strip (2 ∷ 1 ∷ replicate 6 0) ≡ false)
    × (is_strip (1 ∷ 0 ∷ 0 ∷ 8 ∷ 3 ∷ 0 ∷ 0 ∷ []) ≡ false)
unfolding keys_within following key_of decode accepts
no_strips_cut_off = (refl, refl, refl)

-- an exponent of 0, of 1, and the least one
pub exponents_in_strips :
    (is_strip (1 ∷ 0 ∷ 0 ∷ 8 ∷ 0 ∷ 0 ∷ 0 ∷ 0 ∷ []) ≡ false)
    × (is_strip (1 ∷ 0 ∷ 0 ∷ 8 ∷ 1 ∷ 0 ∷ 0 ∷ 0 ∷ []) ≡ false)
    × (is_strip (1 ∷ 0 ∷ 0 ∷ 8 ∷ 2 ∷ 0 ∷ 0 ∷ 0 ∷ []) ≡ true)
unfolding keys_within following key_of decode accepts
exponents_in_strips = (refl, refl, refl)

-- the literals 2^53, 2^53 - 1, -(2^53 - 1), -2^53
pub literals_in_strips :
    (is_strip (2 ∷ replicate 6 0 ++ (32 ∷ 0 ∷ [])) ≡ false)
    × (is_strip (2 ∷ replicate 6 255 ++ (31 ∷ 0 ∷ [])) ≡ true)
    × (is_strip (2 ∷ 1 ∷ replicate 5 0 ++ (224 ∷ 255 ∷ [])) ≡ true)
    × (is_strip (2 ∷ replicate 6 0 ++ (224 ∷ 255 ∷ [])) ≡ false)
unfolding keys_within following key_of decode accepts
literals_in_strips = (refl, refl, refl, refl)

-- a value missing, two left
pub no_strips_by_count :
    (is_strip (3 ∷ []) ≡ false)
    × (is_strip (1 ∷ 0 ∷ 0 ∷ 3 ∷ []) ≡ false)
    × (is_strip (8 ∷ 2 ∷ 0 ∷ 0 ∷ 0 ∷ []) ≡ false)
    × (is_strip (1 ∷ 0 ∷ 0 ∷ 1 ∷ 0 ∷ 0 ∷ []) ≡ false)
unfolding keys_within following key_of decode accepts
no_strips_by_count = (refl, refl, refl, refl)
