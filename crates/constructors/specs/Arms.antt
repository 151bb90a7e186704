-- Each arm of the tables of `add` and `mul`, met by two nodes, and what it returns, so that what an arm returns cannot be changed unseen; and nodes that enter an arm and leave it, or meet two.
-- Assumes nothing.
use Rattle.std.specs.Prelude.{◌≡◌, List, [], ◌∷◌, ℕ, pos, get_or}
use Rattle.pool.specs.declared.node.Node.{Node}
use Rattle.pool.specs.declared.node.Node.TheVariants as node
use Rattle.constructors.specs.Terms.{#, lit, add, mul, exp, pow, Add, Mul}
use Rattle.constructors.specs.Tables.{add_table, mul_table}

-- the nodes, by number
abbrev pub nodes : List Node
nodes =
    -- 0 to 5: x, y, the literals 0, 1, 2, 3
    node.Variable 0 ∷ node.Variable 1 ∷ node.Lit (pos 0) ∷ node.Lit (pos 1) ∷ node.Lit (pos 2) ∷ node.Lit (pos 3)
    -- 6 to 9: x + y, x + 2, y + 3, 2 + x
    ∷ node.Add 0 1 ∷ node.Add 0 4 ∷ node.Add 1 5 ∷ node.Add 4 0
    -- 10 to 12: 2 × x, 3 × y, y × x
    ∷ node.Mul 4 0 ∷ node.Mul 5 1 ∷ node.Mul 1 0
    -- 13, 14: exp x, exp y
    ∷ node.Exp 0 ∷ node.Exp 1
    -- 15 to 18: exp x × y, y × exp x, exp y × x, x × exp y
    ∷ node.Mul 13 1 ∷ node.Mul 1 13 ∷ node.Mul 14 0 ∷ node.Mul 0 14
    -- 19 to 21: x^2, x^3, y × x^2
    ∷ node.Pow 0 2 ∷ node.Pow 0 3 ∷ node.Mul 1 19
    -- 22 to 24: another 0 and another 1, exp x × exp y
    ∷ node.Lit (pos 0) ∷ node.Lit (pos 1) ∷ node.Mul 13 14 ∷ []

abbrev pub at : ℕ → Node
at i = get_or nodes i node.Empty

pub record AddArms : Type 0 where
  -- 0 + x, x + 0, 2 + 3
  pub zero_left : add_table at 2 0 ≡ # 0
  pub zero_right : add_table at 0 2 ≡ # 0
  pub literals : add_table at 4 5 ≡ lit (pos 5)
  -- 2 + (y + 3), 2 + (x + y)
  pub literal_and_sum : add_table at 4 8 ≡ add (# 1) (lit (pos 5))
  pub literal_and_other_sum : add_table at 4 6 ≡ Add (# 6) (# 4)
  -- (2 + x) + 3, (x + y) + 3, and (x + 2) + 3, which is not folded
  pub sum_and_literal : add_table at 9 5 ≡ add (# 0) (lit (pos 5))
  pub other_sum_and_literal : add_table at 6 5 ≡ Add (# 6) (# 5)
  pub not_folded : add_table at 7 5 ≡ Add (# 7) (# 5)
  -- (x + 2) + (y + 3), (x + 2) + (x + y), (x + y) + (y + 3)
  pub sums : add_table at 7 8 ≡ add (add (# 0) (# 1)) (lit (pos 5))
  pub sum_left : add_table at 7 6 ≡ add (add (# 0) (# 6)) (# 4)
  pub sum_right : add_table at 6 8 ≡ add (add (# 6) (# 1)) (# 5)
  -- 0 + 0 is the right one; (x + y) + (x + y) has no literal to move
  pub two_zeros : add_table at 2 22 ≡ # 22
  pub plain_sums : add_table at 6 6 ≡ Add (# 6) (# 6)
  -- x + y
  pub plain : add_table at 0 1 ≡ Add (# 0) (# 1)

pub record MulArms : Type 0 where
  -- 0 × x, x × 0, and 1 × 0: a zero is tested for before a one
  pub zero_left : mul_table at 2 0 ≡ lit (pos 0)
  pub zero_right : mul_table at 0 2 ≡ lit (pos 0)
  pub one_and_zero : mul_table at 3 2 ≡ lit (pos 0)
  -- 1 × x, x × 1
  pub one_left : mul_table at 3 0 ≡ # 0
  pub one_right : mul_table at 0 3 ≡ # 0
  -- 1 × 1 is the right one
  pub two_ones : mul_table at 3 23 ≡ # 23
  -- exp x × exp y, 2 × 3
  pub exps : mul_table at 13 14 ≡ exp (add (# 0) (# 1))
  pub literals : mul_table at 4 5 ≡ lit (pos 6)
  -- 2 × (3 × y), (3 × y) × 2
  pub literal_and_scaled : mul_table at 4 11 ≡ Mul (lit (pos 6)) (# 1)
  pub scaled_and_literal : mul_table at 11 4 ≡ Mul (lit (pos 6)) (# 1)
  -- (y × exp x) × exp y, exp y × (y × exp x), (exp x × y) × exp y
  pub exp_second : mul_table at 16 14 ≡ mul (# 1) (exp (add (# 0) (# 1)))
  pub exp_before_second : mul_table at 14 16 ≡ mul (# 1) (exp (add (# 0) (# 1)))
  pub exp_first : mul_table at 15 14 ≡ mul (# 1) (exp (add (# 0) (# 1)))
  -- (exp x × y) × (exp y × x), (exp x × y) × (x × exp y), (y × exp x) × (exp y × x), (y × exp x) × (x × exp y)
  pub exp_first_first : mul_table at 15 17 ≡ mul (mul (# 1) (# 0)) (exp (add (# 0) (# 1)))
  pub exp_first_second : mul_table at 15 18 ≡ mul (mul (# 1) (# 0)) (exp (add (# 0) (# 1)))
  pub exp_second_first : mul_table at 16 17 ≡ mul (mul (# 1) (# 0)) (exp (add (# 0) (# 1)))
  pub exp_second_second : mul_table at 16 18 ≡ mul (mul (# 1) (# 0)) (exp (add (# 0) (# 1)))
  -- (2 × x) × (3 × y), (2 × x) × y, y × (2 × x)
  pub literals_ahead : mul_table at 10 11 ≡ Mul (lit (pos 6)) (mul (# 0) (# 1))
  pub literal_ahead_left : mul_table at 10 1 ≡ Mul (# 4) (mul (# 0) (# 1))
  pub literal_ahead_right : mul_table at 1 10 ≡ Mul (# 4) (mul (# 0) (# 1))
  -- (y × x) × x, (y × x) × x^3, (y × x^2) × x^3
  pub same_factor : mul_table at 12 0 ≡ mul (# 1) (pow (# 0) 2)
  pub factor_and_power : mul_table at 12 20 ≡ mul (# 1) (pow (# 0) 4)
  pub powers : mul_table at 21 20 ≡ mul (# 1) (pow (# 0) 5)
  -- where two arms or two parts fit: (exp x × exp y) × exp x takes the second part, (exp x × exp y) × (exp x × exp y) the first parts, (y × x^2) × x^2 the same factor
  pub second_part_first : mul_table at 24 13 ≡ mul (# 13) (exp (add (# 1) (# 0)))
  pub first_pair_first : mul_table at 24 24 ≡ mul (mul (# 14) (# 14)) (exp (add (# 0) (# 0)))
  pub same_factor_first : mul_table at 21 19 ≡ mul (# 1) (pow (# 19) 2)
  -- 2 × (y × x), exp x × (y × x), (2 × x) × (y × x), (y × x) × (2 × x): the arms for such nodes are entered and left
  pub literal_and_product : mul_table at 4 12 ≡ Mul (# 4) (# 12)
  pub exp_and_product : mul_table at 13 12 ≡ Mul (# 13) (# 12)
  pub left_literal_alone : mul_table at 10 12 ≡ Mul (# 10) (# 12)
  pub right_literal_alone : mul_table at 12 10 ≡ Mul (# 12) (# 10)
  -- x × 2, x × y, and x × x, which is no power
  pub literal_last : mul_table at 0 4 ≡ Mul (# 4) (# 0)
  pub plain : mul_table at 0 1 ≡ Mul (# 0) (# 1)
  pub no_power : mul_table at 0 0 ≡ Mul (# 0) (# 0)
