-- `places::Block::half` meets its contract: there is room for one bit more. Assumes nothing.
use mathlib.Core.Path.{sym, subst}
use Prim.Native.Nat.{ℕ, ◌+◌, ◌*◌}
use native.Mathlib.Omega.{arith}
use mir.Syntax.{w32}
use mir.Val.{Fits}
use Rattle.places.proofs.Turns.{low_fits, bit_fits}
use Rattle.places.proofs.Block.half.Goals as goal

pub overflow_mul-result : goal.overflow_mul-result
overflow_mul-result c = low_fits c.args.self.next (λ e. omega (arith, c.requires.1)) c.requires.0.next_room

pub overflow_add-result : goal.overflow_add-result
overflow_add-result c = subst (λ (k : ℕ). Fits w32 (2 * c.args.self.next + k)) (sym c.from.ensures)
    (bit_fits c.args.self.next (λ e. omega (arith, c.requires.1)) c.requires.0.next_room c.args.bit)
