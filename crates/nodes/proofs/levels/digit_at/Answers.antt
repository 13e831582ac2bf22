-- `nodes::levels::digit_at` meets its contract. Assumes nothing.
use Rattle.nodes.proofs.Bits.{shifted_digit}
use Rattle.nodes.proofs.levels.digit_at.Goals as goal

pub returns : goal.returns
returns c = rw c.unwrap_or.ensures (shifted_digit c.args.n c.args.k c.checked_shr.result c.ranges.n.fits c.checked_shr.ensures)
