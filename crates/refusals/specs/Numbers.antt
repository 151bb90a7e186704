-- The number of each refusal of the code, and an answer of the code with the number in the refusal's place.
-- Assumes nothing.
use Rattle.std.specs.Prelude.{ℕ, Result, Ok, Err}
use Rattle.refusals.specs.Refusals.{broken_pool, unknown_node, unknown_variable, not_literal, wrong_order, wrong_values, wrong_length, wrong_entry, wrong_sequence, max_reached, no_exp_or_log, out_of_range, exponent_too_large, too_deep, no_value, not_evaluated, no_inverse, pool_full, no_room, too_many_places, wrong_strip}
use Rattle.refusals.specs.declared.Refusal.{Refusal}
use Rattle.refusals.specs.declared.Refusal.TheVariants as refusal

abbrev pub number : Refusal → ℕ
number refusal.BrokenPool = broken_pool
number refusal.UnknownNode = unknown_node
number refusal.UnknownVariable = unknown_variable
number refusal.NotLiteral = not_literal
number refusal.WrongOrder = wrong_order
number refusal.WrongValues = wrong_values
number refusal.WrongLength = wrong_length
number refusal.WrongEntry = wrong_entry
number refusal.WrongSequence = wrong_sequence
number refusal.MaxReached = max_reached
number refusal.NoExpOrLog = no_exp_or_log
number refusal.OutOfRange = out_of_range
number refusal.ExponentTooLarge = exponent_too_large
number refusal.TooDeep = too_deep
number refusal.NoValue = no_value
number refusal.NotEvaluated = not_evaluated
number refusal.NoInverse = no_inverse
number refusal.PoolFull = pool_full
number refusal.NoRoom = no_room
number refusal.TooManyPlaces = too_many_places
number refusal.WrongStrip = wrong_strip

-- what was given, or the refusal number
abbrev pub numbered : {A : Type 0} → Result A Refusal → Result A ℕ
numbered (Ok x) = Ok x
numbered (Err r) = Err (number r)
