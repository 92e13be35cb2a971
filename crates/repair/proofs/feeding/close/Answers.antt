-- `repair::feeding::close` meets its contract. Assumes nothing.
use Rattle.lines.proofs.Lines.{written-whole}
use Rattle.lines.proofs.Stages.{in_header, in_stripes, not_in_header, not_in_stripes, past_header, past_stripes}
use Rattle.repair.proofs.Doing.{no_room_to_close, closed_in_header, closed_in_stripes, closed_already, line_closes, no_line_closes}
use Rattle.repair.proofs.feeding.close.Goals as goal

pub returns-then-list-lt-ROOM : goal.returns-then-list-lt-ROOM
returns-then-list-lt-ROOM c =
    let a = c.args in
    let both = no_line_closes a.list.now (no_room_to_close a.state _ c.if-list-lt-ROOM.true) in record { value = both.0; list_after = both.1 }

pub returns-in-Header : goal.returns-in-Header
returns-in-Header c =
    let room = c.if-list-lt-ROOM.false in
    let stage = in_header c.from.ensures c.in-Header.is in
    let both = line_closes (closed_in_header c.args.state _ room stage) (written-whole room (rw c.from-in-Header.ensures at c.refused_line.ensures)) in record { value = both.0; list_after = both.1 }

pub returns-in-Stripes : goal.returns-in-Stripes
returns-in-Stripes c =
    let room = c.if-list-lt-ROOM.false in
    let stage = in_stripes c.from.ensures c.in-Stripes.is in
    let both = line_closes (closed_in_stripes c.args.state _ room stage) (written-whole room (rw c.from-in-Stripes.ensures at c.refused_line-in-Stripes.ensures)) in record { value = both.0; list_after = both.1 }

pub returns-in-Behind : goal.returns-in-Behind
returns-in-Behind c =
    let a = c.args in
    let past = c.in-Behind.is in
    let closed = closed_already a.state _ c.if-list-lt-ROOM.false (not_in_header c.from.ensures (past_header past)) (not_in_stripes c.from.ensures (past_stripes past)) in
    let both = no_line_closes a.list.now closed in record { value = both.0; list_after = both.1 }
