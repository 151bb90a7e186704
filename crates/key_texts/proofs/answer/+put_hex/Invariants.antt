-- `key_texts::answer::put_hex` meets its contract: the number of digits falls, and one more digit is put behind those before it.
-- Assumes nothing.
use Rattle.key_texts.proofs.answer.+put_hex.Given as goal

abbrev pub decreases-put_hex : goal.decreases-put_hex
decreases-put_hex l = l.digits
