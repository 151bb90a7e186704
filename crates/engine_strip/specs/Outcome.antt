-- What the theorems on key strips speak of: a call that makes a strip from a root of a pool.
-- Assumes nothing.
use Rattle.std.specs.Prelude.{List, ℕ, ◌≤◌, length}
use Rattle.low_bytes.specs.Output.{longest_text}
use Rattle.pool.specs.Pool.{Pool, node_at}
use Rattle.key_strip.specs.Strip.{strip_of}
use Rattle.lent.specs.Writing.{Put}
use Rattle.engine_strip.specs.Strips.{strip_call}

abbrev pub strip_from : Pool → ℕ → List ℕ → Put
strip_from P root old = strip_call P.kinds P.words P.count root old

-- not 19: the strip has at most 65,535 bytes, and the output has room for it
abbrev pub StripFits : Pool → ℕ → List ℕ → Type 0
StripFits P root old = (length (strip_of (node_at P) root) ≤ longest_text) × (length (strip_of (node_at P) root) ≤ length old)
