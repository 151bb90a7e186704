-- What writing a file leaves in the lent output.
-- Assumes nothing.
use Rattle.std.specs.Prelude.{◌≡◌, true, cond, List, ◌++◌, ℕ, leb, length, drop, Result, Ok, Err}
use Rattle.refusals.specs.Refusals.{no_room}
use Rattle.pool.specs.Pool.{is_pool}
use Rattle.shape.specs.Demand.{Below}

-- the tables are a pool, and the roots are below its count
pub record HasRoots (kinds words roots : List ℕ) : Type 0 where
  pub count : ℕ
  pub rules : is_pool kinds words count ≡ true
  pub given : Below count roots

-- the answer of writing, and what the output holds then
pub record FileOutput : Type 0 where
  pub answer : Result ℕ ℕ
  pub out : List ℕ

abbrev pub file_output : Result ℕ ℕ → List ℕ → FileOutput
file_output r out = record { answer = r; out = out }

-- the file where it fits, "the output's bytes past the result are unchanged"; 19: "The lent output is too short", and it is unchanged
unfoldable pub file_into : List ℕ → List ℕ → FileOutput
file_into old file = cond (leb (length file) (length old)) (file_output (Ok (length file)) (file ++ drop (length file) old)) (file_output (Err no_room) old)
