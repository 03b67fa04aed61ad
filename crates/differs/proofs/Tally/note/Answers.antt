use Rattle.std.proofs.Common.{refl, arith}
use Rattle.differs.proofs.Walks.{note_full, note_room}
use Rattle.differs.proofs.Tally.note.Goals.{then-at-self, else-at-self}
use Rattle.differs.proofs.Tally.note.Goals as goal

pub returns : goal.returns
returns c =
    let t = c.args.self.now in
    elim c.if-at-self.branch [
      | then-at-self w ↦ rw w.self-is (record {
        same_list = refl;
        all = note_room c.args.page c.args.line c.args.first c.args.last t.count t.list.now w.if-at-self.true w.copy_from_slice.ensures.after;
        few = omega arith;
      })
      | else-at-self w ↦ rw w.self-is (record {
        same_list = refl;
        all = note_full c.args.page c.args.line c.args.first c.args.last t.count t.list.now w.if-at-self.false;
        few = omega arith;
      })
    ]
