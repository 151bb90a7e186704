-- The examples that document 01 marks with *, all of them, as one statement about the definitions: on the left the definitions at work, on the right the paper's text.
-- Assumes nothing.
use Rattle.std.specs.Prelude.{◌≡◌, [], ◌∷◌, ℕ, ℤ, pos, Ok, Err, Some}
use Rattle.refusals.specs.Refusals.{no_exp_or_log}
use Rattle.residue.specs.Residue.{fixed_modulus}
use Rattle.residue.specs.Residue.{Divided}
use Rattle.pool.specs.declared.node.Node.TheVariants as node
use Rattle.pool.specs.Pool.{Out, done, refused, Run, append, node_at, ◌>>=◌}
use Rattle.constructors.specs.Build.{calls, depth}
use Rattle.walks.specs.Substitute.{substitute_var}
use Rattle.walks.specs.Derive.{derive}
use Rattle.walks.specs.EvaluateResidue.{evaluate_residue}
use Rattle.taylor.specs.Expand.{expand}
use Rattle.examples.specs.Shown.{bytes, with_variables, x0, x1, Shown, text, texts, refusal, shown, shown_expansion}

abbrev pub lit : ℤ → Run
lit z = append (node.Lit z)

abbrev pub add : ℕ → ℕ → Run
add a b = (calls depth).add_at a b

abbrev pub mul : ℕ → ℕ → Run
mul a b = (calls depth).mul_at a b

abbrev pub pow : ℕ → ℕ → Run
pow a e = (calls depth).pow_at a e

-- an expression's expansion by x0 to order 2 at a point
abbrev pub expanded_at : ℤ → Out → Shown
expanded_at z (done i P) = shown_expansion (expand i x0 (Some z) 2 P)
expanded_at z (refused k) = refusal k

-- an expression's residue, with no values
abbrev pub residue_in : Out → Divided
residue_in (done i P) = evaluate_residue fixed_modulus (node_at P) [] i
residue_in (refused k) = Err k

-- 2 + (x0 + 1)
unfoldable pub literal_left : Run
literal_left = do
  two ← lit (pos 2)
  one ← lit (pos 1)
  s ← add x0 one
  add two s

-- (x0 + 1) + 2
unfoldable pub literal_right : Run
literal_right = do
  one ← lit (pos 1)
  s ← add x0 one
  two ← lit (pos 2)
  add s two

-- (x0 × x0) × x0
unfoldable pub cube : Run
cube = do
  s ← mul x0 x0
  mul s x0

-- x0 := 2 in x0 × x1
unfoldable pub substituted : Run
substituted = do
  p ← mul x0 x1
  two ← lit (pos 2)
  substitute_var p 0 two

-- `derive` of x0^3
unfoldable pub derived_cube : Run
derived_cube = do
  p ← pow x0 3
  derive p 0

-- `derive` of x0/x1 by x0
unfoldable pub derived_quotient : Run
derived_quotient = do
  q ← (calls depth).div_at x0 x1
  derive q 0

unfoldable pub square : Run
square = mul x0 x0

unfoldable pub logarithm : Run
logarithm = (calls depth).log_at x0

unfoldable pub exponential : Run
exponential = (calls depth).exp_at x0

-- `pow` of literal 0 by 0
unfoldable pub zero_to_the_zeroth : Run
zero_to_the_zeroth = do
  z ← lit (pos 0)
  pow z 0

-- exp(1)
unfoldable pub exp_of_one : Run
exp_of_one = do
  one ← lit (pos 1)
  (calls depth).exp_at one

-- 1/2
unfoldable pub half : Run
half = do
  one ← lit (pos 1)
  two ← lit (pos 2)
  (calls depth).div_at one two

-- the statement
pub record Starred : Type 0 where
  pub literal_left_shown : shown (with_variables literal_left) ≡ text (bytes "a + 3")
  pub literal_right_shown : shown (with_variables literal_right) ≡ text (bytes "a + 1 + 2")
  pub cubed : shown (with_variables cube) ≡ text (bytes "a*a^2")
  pub substitution : shown (with_variables substituted) ≡ text (bytes "2*b")
  pub derived_cube_shown : shown (with_variables derived_cube) ≡ text (bytes "3*a^2")
  pub derived_quotient_shown : shown (with_variables derived_quotient) ≡ text (bytes "-1*b/b^2")
  pub square_at_3 : expanded_at (pos 3) (with_variables square) ≡ texts (bytes "9" ∷ bytes "6" ∷ bytes "1" ∷ [])
  pub log_at_1 : expanded_at (pos 1) (with_variables logarithm) ≡ texts (bytes "0" ∷ bytes "1" ∷ bytes "-1/2" ∷ [])
  pub exp_at_0 : expanded_at (pos 0) (with_variables exponential) ≡ texts (bytes "1" ∷ bytes "1" ∷ bytes "1/2" ∷ [])
  pub zero_to_the_zeroth_shown : shown (with_variables zero_to_the_zeroth) ≡ text (bytes "1")
  pub exp_of_one_shown : shown (with_variables exp_of_one) ≡ refusal no_exp_or_log
  pub half_by_residues : residue_in (with_variables half) ≡ Ok 1073741824
