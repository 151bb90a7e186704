-- Key strips as calls from outside (C-20). Writing: 1, 2, then 16, 27 and 19. Running: 6, then 28 for the whole strip, then 15.
-- Assumes nothing.
use Rattle.std.specs.Prelude.{not, List, [], ◌∷◌, ℕ, leb, length, Float, Err}
use Rattle.refusals.specs.Refusals.{broken_pool, unknown_node, wrong_values, not_evaluated, no_room, too_many_places, wrong_strip}
use Rattle.low_bytes.specs.Output.{text_fits}
use Rattle.double.specs.Double.{Valued}
use Rattle.pool.specs.Nodes.{all_below}
use Rattle.pool.specs.Pool.{node_in, is_pool}
use Rattle.key_strip.specs.Strip.{strip_of, places_of, most_places, has_exp_or_log}
use Rattle.key_strip.specs.Machine.{is_strip, run_strip}
use Rattle.lent.specs.Call.{demand}
use Rattle.lent.specs.Writing.{Put, unwritten, writes}
use Rattle.engine_values.specs.Values.{most_values}

-- "16 covers a reachable Exp or Log here, 19 a strip above 65,535 bytes. 27 .. checked after 16 and before 19."
unfoldable pub strip_call : List ℕ → List ℕ → ℕ → ℕ → List ℕ → Put
strip_call ks ws n root out =
    demand (unwritten out) (is_pool ks ws n) broken_pool
    (demand (unwritten out) (all_below n (root ∷ [])) unknown_node
    (demand (unwritten out) (not (has_exp_or_log (node_in ks ws) root)) not_evaluated
    (demand (unwritten out) (leb (places_of (node_in ks ws) root) most_places) too_many_places
    (demand (unwritten out) (text_fits (strip_of (node_in ks ws) root) out) no_room
    (writes (strip_of (node_in ks ws) root) out)))))

-- "The machine answers any bytes: 28, checked after 9 and before 15"
unfoldable pub run_strip_call : List ℕ → List Float → Valued
run_strip_call strip values =
    demand Err (leb (length values) most_values) wrong_values
    (demand Err (is_strip strip) wrong_strip
    (run_strip values strip))
