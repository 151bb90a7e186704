-- What a walk promises of the pool: it only appends.
-- Assumes nothing.
use Rattle.constructor_laws.specs.Grown.{Grown, Goes}
use Rattle.walks.specs.Walk.{State, Went}

-- the pool that an accepted walk leaves has grown from the one that it found
abbrev pub GrownPool : State → State → Type 0
GrownPool S T = Grown S.pool T.pool

abbrev pub Grows : State → Went → Type 0
Grows S w = Goes GrownPool S w
