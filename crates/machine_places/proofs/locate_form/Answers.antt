use Rattle.machine_places.proofs.StoringLaws.{Storing-next, storing_end}
use Rattle.machine_places.proofs.locate_form.Goals as goal

pub loop-j-preserved : goal.loop-j-preserved
loop-j-preserved c =
    Storing-next c.args.work.now c.args.f c.args.row c.members_at-count.result c.requires c.members_at-count.ensures
    c.loop-j.work c.loop-j.fields c.loop-j.j c.loop-j.invariant
    c.member-m.result c.place_member-fields.result c.place_member-fields.new.work c.loop-j-test.true c.member-m.ensures c.place_member-fields.ensures.0 c.place_member-fields.ensures.1

pub returns : goal.returns
returns c =
    storing_end c.args.work.now c.args.f c.args.row c.members_at-count.result c.requires c.members_at-count.ensures
    c.loop-j.work c.loop-j.fields c.loop-j.j c.loop-j.invariant c.loop-j-test.false
