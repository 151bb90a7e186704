-- What the code of `add` finds to be built: the right sides of the table of `add`, in six forms.
-- Assumes nothing.
use Rattle.std.specs.Prelude.{◌+ℤ◌}
use Rattle.constructors.specs.Terms.{Term, #, lit, add, Add}
use Rattle.adds.specs.declared.rule.AddRule.{AddRule}
use Rattle.adds.specs.declared.rule.AddRule.TheVariants.{Same, Sum, Onto, Plain, Sums, Chain}

-- the term that a rule stands for
abbrev pub add_term : AddRule → Term
add_term (Same a) = # a
add_term (Sum x y) = lit (x +ℤ y)
add_term (Onto b x y) = add (# b) (lit (x +ℤ y))
add_term (Plain a b) = Add (# a) (# b)
add_term (Sums a c x y) = add (add (# a) (# c)) (lit (x +ℤ y))
add_term (Chain a b c) = add (add (# a) (# b)) (# c)
