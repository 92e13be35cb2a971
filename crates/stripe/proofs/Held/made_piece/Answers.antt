-- `stripe::Held::made_piece` meets its contract. Assumes nothing.
use native.Mathlib.Omega.{arith}
use Rattle.format.proofs.Laws.{carried-piece}
use Rattle.tag.specs.Blocks.{format_at}
use Rattle.stripe.proofs.Pieces.{made_piece}
use Rattle.stripe.proofs.Held.made_piece.Goals as goal

pub combined-requires-clause-piece_length_bound : goal.combined-requires-clause-piece_length_bound
combined-requires-clause-piece_length_bound c = omega (arith, carried-piece c.args.self.now.stripe.array.method c.requires.carries)

pub returns : goal.returns
returns c =
    let h = c.args.self.now in
    let s = h.stripe in
    let content = made_piece (format_at s.array) s.array.members c.args.member h.bytes.now c.args.piece.now c.combined.new.out (carried-piece s.array.method c.requires.carries) c.requires.piece_len c.combined.ensures in record {
      guard_value = rw content at c.made_guard.ensures;
      piece_after = content;
    }
