-- A text is put where the output has room for all of it; else nothing changes.
use Rattle.std.proofs.Common.{arith, ◌+◌, ◌≤◌, length}
use Rattle.objects.proofs.NumberTexts.{put_empty, put_one, put_part}
use Rattle.objects.proofs.writer.put_text.Goals as goal

pub returns-in-empty : goal.returns-in-empty
returns-in-empty c =
    let room : c.args.at + length c.args.text.now ≤ length c.args.out.now = omega arith in
    search (put_empty, room)

pub returns-in-len1 : goal.returns-in-len1
returns-in-len1 c =
    let room : c.args.at + length c.args.text.now ≤ length c.args.out.now = omega arith in
    search (put_one, room)

pub returns-in_default : goal.returns-in_default
returns-in_default c =
    let room : c.args.at + length c.args.text.now ≤ length c.args.out.now = omega arith in
    search (put_part, room)
