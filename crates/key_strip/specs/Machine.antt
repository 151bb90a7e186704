-- C-20: the "small machine with 128 places", which "answers any bytes". A strip is taken apart into keys, these are tested, and then they run.
-- A key is a node by document 01's table whose parts are places, 0 the topmost: so the machine's arithmetic is that of evaluation.
-- Assumes nothing.
use Rattle.std.specs.Prelude.{Bool, ◌&&◌, cond, List, [], ◌∷◌, ℕ, zero, suc, ◌+◌, ◌-◌, leb, eqb, length, get_or, drop, Float, Ok}
use Rattle.std.specs.Float.{nan}
use Rattle.low_bytes.specs.LowBytes.{number_at}
use Rattle.pool.specs.Nodes.{decode, parts, is_node, pair}
use Rattle.pool.specs.declared.node.Node.{Node}
use Rattle.pool.specs.declared.node.Node.TheVariants.{Empty}
use Rattle.double.specs.Double.{Valued}
use Rattle.walks.specs.Evaluate.{one, evaluate_node}
use Rattle.key_strip.specs.Strip.{most_places, combines}

-- how many bytes follow a code: 16, 64 or 32 bits, or none
unfoldable pub following : ℕ → ℕ
following code = cond (eqb code 1) 2 (cond (eqb code 2) 8 (cond (eqb code 8) 4 0))

-- a code and the number that follows it, as a key: "the lower one being the left", so left is place 1 and right is place 0, the topmost; "8 raises the topmost".
-- Empty where "a code is unknown", or what follows it "breaks document 01's table or literal range"
unfoldable pub key_of : ℕ → ℕ → Node
key_of code x =
    cond (eqb code 1) (decode 1 x)
    (cond (eqb code 2) (decode 2 x)
    (cond (eqb code 8) (decode 8 (pair 0 x))
    (cond (combines code) (decode code (pair 1 0)) Empty)))

-- the keys of a strip of at most k bytes; Empty where "what follows a code is cut off"
unfoldable pub keys_within : ℕ → List ℕ → List Node
keys_within zero bs = []
keys_within (suc k) [] = []
keys_within (suc k) (code ∷ bs) =
    cond (leb (following code) (length bs)) (key_of code (number_at (following code) bs 0) ∷ keys_within k (drop (following code) bs)) (Empty ∷ [])

abbrev pub keys_of : List ℕ → List Node
keys_of bs = keys_within (length bs) bs

-- how many values a key takes; each leaves one
abbrev pub taken : Node → ℕ
taken key = length (parts key)

-- not 28, where d places are in use: every key is a node, no "values are missing", no place above the 128 is needed, and "exactly one value is left"
unfoldable pub accepts : ℕ → List Node → Bool
accepts d [] = eqb d 1
accepts d (key ∷ more) = is_node key && (leb (taken key) d && (leb (d - taken key + 1) most_places && accepts (d - taken key + 1) more))

abbrev pub is_strip : List ℕ → Bool
is_strip bs = accepts 0 (keys_of bs)

-- the value in a place, of those in use, the topmost first
abbrev pub in_place : List Float → ℕ → Valued
in_place places j = Ok (get_or places j nan)

-- a key is evaluated as the node that it is, its parts being in places; 15. What it gives stands where its parts stood
unfoldable pub run_from : List Float → List Float → List Node → Valued
run_from values places [] = in_place places 0
run_from values places (key ∷ more) =
    one (evaluate_node values (in_place places) key) (λ x. run_from values (x ∷ drop (taken key) places) more)

abbrev pub run_strip : List Float → List ℕ → Valued
run_strip values bs = run_from values [] (keys_of bs)
