-- The measure is the number, which loses its last digit at each call.
-- Assumes nothing.
use Rattle.puts.proofs.bytes.Text.+put_number.Given as goal

abbrev pub decreases-put_number : goal.decreases-put_number
decreases-put_number l = l.number
