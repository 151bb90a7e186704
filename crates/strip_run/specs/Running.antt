-- How far the run of a strip has come: what is left, with the values in places, gives what the whole strip gives.
-- Assumes nothing.
use Rattle.std.specs.Prelude.{◌≡◌, true, List, ℕ, ◌<◌, ◌≤◌, Float, length, drop, Result, Ok, Err}
use Rattle.double.specs.Double.{Valued}
use Rattle.key_strip.specs.Strip.{most_places}
use Rattle.key_strip.specs.Machine.{keys_of, accepts, run_from, run_strip}
use Rattle.strip_run.specs.Held.{in_use}
use Rattle.strip_run.specs.declared.running.Machine.{Machine}

abbrev pub machine : ℕ → ℕ → Float → Float → Machine
machine at d top below = record { at = at; depth = d; top = top; below = below }

pub record RunningAt (s : List ℕ) (values held : List Float) (at d : ℕ) (top below : Float) : Type 0 where
  pub within : at ≤ length s
  pub small : d ≤ most_places
  pub long : length held ≡ most_places
  pub takes : accepts d (keys_of (drop at s)) ≡ true
  pub so_far : run_strip values s ≡ run_from values (in_use top below held d) (keys_of (drop at s))

-- the same, of a machine
abbrev pub Running : List ℕ → List Float → List Float → Machine → Type 0
Running s values held M = RunningAt s values held M.at M.depth M.top M.below

-- a key found a value, which is topmost then, or a refusal
abbrev pub ran : ℕ → ℕ → Valued → Float → Result Machine ℕ
ran next d (Ok x) below = Ok (machine next d x below)
ran next d (Err k) below = Err k

-- a key gave this: the run goes on after it, or ends with the refusal
abbrev pub RanTo : List ℕ → List Float → ℕ → List Float → Result Machine ℕ → Type 0
RanTo s values at held (Ok M) = (at < M.at) × Running s values held M
RanTo s values at held (Err k) = run_strip values s ≡ Err k
