-- `scan::taking::take_in` meets its contract. Assumes nothing.
use mathlib.Core.Path.{◌≡◌}
use Prim.Native.Nat.{◌%◌}
use native.Mathlib.Nat.{mod-eq_of_lt}
use native.Mathlib.Omega.{arith}
use lib.ListN.{get_or}
use Rattle.format.proofs.Laws.{kept_small}
use Rattle.tag.specs.Blocks.{format_at}
use Rattle.scan.specs.Scans.{buffer}
use Rattle.scan.proofs.Cuts.{advanced_by}
use Rattle.scan.proofs.Rows.{accepted}
use Rattle.scan.proofs.taking.take_in.Goals as goal

pub overflow_cast-register : goal.overflow_cast-register
overflow_cast-register c =
    let s = c.args.state in
    let m = c.args.member in
    let fine = accepted _ _ _ _ c.requires in
    let small = kept_small s.array.method (get_or s.at m 0) (get_or s.register m 0) (get_or s.waiting m 0) (fine.state.narrow m fine.here) c.register_of-register.ensures.waiting_bound (fine.state.alone m fine.here) in
    omega (arith, c.register_of-register.ensures.value, small)

pub pass-after-requires : goal.pass-after-requires
pass-after-requires c =
    let fine = accepted _ _ _ _ c.requires in
    record {
      member_bound = omega (arith, fine.here, fine.state.few);
      bytes_bound = omega (arith, fine.room, c.from-position.ensures);
      work_len = fine.long;
    }

pub overflow_cast-position : goal.overflow_cast-position
overflow_cast-position c =
    let F = format_at c.args.state.array in
    let fine = accepted _ _ _ _ c.requires in
    omega (arith, fine.room, c.from-position.ensures, F.block_parts, F.data_most, F.tag_quarters, F.quarter-most)

pub replaced_byte-waiting-requires : goal.replaced_byte-waiting-requires
replaced_byte-waiting-requires c =
    let m = c.args.member in
    let fine = accepted _ _ _ _ c.requires in
    let place : m % 65536 ≡ m = mod-eq_of_lt (omega (arith, fine.here, fine.state.few)) in
    omega (arith, place, fine.here, fine.state.few)

pub returns : goal.returns
unfolding buffer
returns c =
    let s = c.args.state in
    let m = c.args.member in
    let fine = accepted _ _ _ _ c.requires in
    let place : m % 65536 ≡ m = mod-eq_of_lt (omega (arith, fine.here, fine.state.few)) in
    let position = c.from-position.ensures in
    record {
      value = advanced_by s m c.args.bytes.now c.replaced-at.result c.replaced-value.result c.replaced_byte-waiting.result
          c.register_of-register.result c.pass-after.result c.value_in.result c.waiting_in.result _
          c.register_of-register.ensures.value (rw position at c.pass-after.ensures.value) c.value_in.ensures c.waiting_in.ensures
          (rw (place, position) at c.replaced-at.ensures) (rw place at c.replaced-value.ensures) (rw place at c.replaced_byte-waiting.ensures) (rw position at c.pass-after.ensures.tag_after);
      work_after = rw position at c.pass-after.ensures.work_after;
    }
