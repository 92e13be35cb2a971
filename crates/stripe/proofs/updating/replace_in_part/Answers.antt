-- `stripe::updating::replace_in_part` meets its contract. Assumes nothing.
use mathlib.Core.Path.{sym, ◌∙◌}
use native.Mathlib.Omega.{arith}
use lib.ListN.{length}
use Rattle.stripe.proofs.InParts.{part_taken, part_none, part-own, part-all}
use Rattle.stripe.proofs.Updates.{replaceable}
use Rattle.stripe.proofs.updating.replace_in_part.Goals as goal

pub replace_own-requires : goal.replace_own-requires
replace_own-requires c =
    let a = c.args in
    let s = a.stripe in
    let r = replaceable s.array s.number a.member (length a.content.now) a.bytes.now (sym c.in_ok-check_replace.ensures) in record {
      member_in = c.requires.member_in;
      bytes_len = r.long;
      content_len = r.size;
    }

pub returns-in-0-clause-bytes_after : goal.returns-in-0-clause-bytes_after
returns-in-0-clause-bytes_after c =
    let a = c.args in
    let s = a.stripe in
    (part_taken s.array s.number a.member a.content.now a.bytes.now a.stores _ c.in_ok-check_replace.ensures (part_none s.array s.number a.member a.content.now a.bytes.now a.stores c.in-0.is)).1

pub returns-in-1-clause-bytes_after : goal.returns-in-1-clause-bytes_after
returns-in-1-clause-bytes_after c =
    let a = c.args in
    let s = a.stripe in
    (part_taken s.array s.number a.member a.content.now a.bytes.now a.stores _ c.in_ok-check_replace.ensures (c.replace_own.ensures ∙ part-own s.array s.number a.member a.content.now a.bytes.now a.stores c.in-1.is)).1

pub returns-in_default-clause-bytes_after : goal.returns-in_default-clause-bytes_after
returns-in_default-clause-bytes_after c =
    let a = c.args in
    let s = a.stripe in
    let all = part-all s.array s.number a.member a.content.now a.bytes.now a.stores (λ e. omega arith) (λ e. omega arith) in
    (part_taken s.array s.number a.member a.content.now a.bytes.now a.stores _ c.in_ok-check_replace.ensures (c.replace.ensures ∙ all)).1
