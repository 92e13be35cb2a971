-- The last line, stage by stage.
use Rattle.std.proofs.Common.{ℕ, length, ap, ◌∙◌}
use Rattle.lines.specs.Lines.{fitting, refused_line}
use Rattle.lines.proofs.Stages.{in_header, in_stripes, behind, over}
use Rattle.report.proofs.Doing.{closed_in_header, closed_in_stripes, closed-behind, closed_already, line_closes, silence_closes}
use Rattle.report.proofs.feeding.close.Goals as goal

pub returns-in-Header : goal.returns-in-Header
returns-in-Header c =
    let room = length c.args.out.now in
    let both = line_closes _ _ _ _ _ (ap (λ (n : ℕ). fitting room (refused_line n)) c.from-in-Header.ensures ∙ closed_in_header c.args.state room (in_header c.from.ensures c.in-Header.is)) c.refused_line.ensures in
    record { value = both.0; out_after = both.1 }

pub returns-in-Stripes : goal.returns-in-Stripes
returns-in-Stripes c =
    let room = length c.args.out.now in
    let both = line_closes _ _ _ _ _ (ap (λ (n : ℕ). fitting room (refused_line n)) c.from-in-Stripes.ensures ∙ closed_in_stripes c.args.state room (in_stripes c.from.ensures c.in-Stripes.is)) c.refused_line-in-Stripes.ensures in
    record { value = both.0; out_after = both.1 }

pub returns-in-Behind : goal.returns-in-Behind
returns-in-Behind c =
    let both = line_closes _ _ _ _ _ (closed-behind c.args.state (length c.args.out.now) (behind c.from.ensures c.in-Behind.is)) c.total_line.ensures in
    record { value = both.0; out_after = both.1 }

pub returns-in-Over : goal.returns-in-Over
returns-in-Over c =
    let both = silence_closes _ _ (closed_already c.args.state _ (over c.from.ensures c.in-Over.is)) in record { value = both.0; out_after = both.1 }
