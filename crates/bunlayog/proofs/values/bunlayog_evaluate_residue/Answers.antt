-- `bunlayog::values::bunlayog_evaluate_residue` meets its contract: its residue fits.
-- Assumes nothing.
use Rattle.bunlayog.proofs.Residues.{call_below}
use Rattle.bunlayog.proofs.values.bunlayog_evaluate_residue.Goals as goal

pub residue_answered-requires : goal.residue_answered-requires
residue_answered-requires c = call_below c.args.kinds.now c.args.words.now c.args.count c.args.root c.args.values.now c.evaluate_residue.ensures
