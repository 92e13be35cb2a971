-- `scan::taking::pass_whole` meets its contract. Assumes nothing.
use mathlib.Core.Path.{◌≡◌, sym, ap₂, ◌∙◌}
use native.Mathlib.Omega.{arith}
use Rattle.format.specs.Methods.{format_of}
use Rattle.scan.proofs.Cuts.{whole_data, whole-work, whole-tags}
use Rattle.scan.proofs.taking.pass_whole.Goals as goal

pub slice_bounds-put_tag-count : goal.slice_bounds-put_tag-count
slice_bounds-put_tag-count c = omega (arith, (format_of c.args.method).block_parts, c.requires.bytes_len, c.requires.method_value, c.block_length-block.ensures)

pub slice_bounds-put_tag-start : goal.slice_bounds-put_tag-start
slice_bounds-put_tag-start c = omega (arith, (format_of c.args.method).block_parts, c.requires.bytes_len, c.requires.method_value, c.block_length-block.ensures)

pub returns : goal.returns
returns c =
    let a = c.args in
    let F = format_of a.method in
    let size : 512 ≡ F.data_length = sym c.requires.method_value in record {
      value = c.advance-after.ensures ∙ ap₂ (F.advance 0) c.start.ensures (whole_data F a.bytes.now 512 size);
      work_after = whole-work F a.bytes.now 512 size a.work.now _ c.xor_into.ensures;
      tag_after = whole-tags F a.bytes.now 512 size a.tag.now _ a.member c.tag_at.result c.block_length-block.result
          c.requires.bytes_len c.block_length-block.ensures c.tag_at.ensures c.put_tag.ensures;
    }
