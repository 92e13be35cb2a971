-- `scan::taking::pass_on` meets its contract: the piece is cut by the code's numbers. Assumes nothing.
use mathlib.Core.Path.{ap, ◌∙◌}
use Prim.Native.Nat.{ℕ, ◌-◌}
use Rattle.format.specs.Methods.{format_of}
use Rattle.scan.proofs.Cuts.{data_part, tags_by_cut, work_by_cut}
use Rattle.scan.proofs.taking.pass_on.Goals as goal

pub returns : goal.returns
returns c =
    let a = c.args in
    let F = format_of a.method in
    let room = c.data_room-room.result in
    let cut = c.least-cut.result in record {
      value = c.advance-after.ensures ∙ ap (F.advance a.position a.register) (data_part F a.position a.bytes.now room cut c.data_room-room.ensures c.least-cut.ensures);
      work_after = work_by_cut F a.position a.bytes.now room cut c.data_room-room.ensures c.least-cut.ensures
          a.work.now c.xor_into.new.dst (c.data_length.result - room) c.requires.work_len (ap (λ (k : ℕ). k - room) c.data_length.ensures) c.xor_into.ensures;
      tag_after = tags_by_cut F a.position a.bytes.now room cut c.data_room-room.ensures c.least-cut.ensures a.tag.now c.store.new.tag a.member c.store.ensures;
    }
