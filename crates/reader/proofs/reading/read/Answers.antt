use mathlib.Core.Path.{refl, ap, ◌∙◌}
use mathlib.Core.Bool.{not}
use Rattle.std.proofs.Common.{length}
use Rattle.reader.specs.Reading.{index_after}
use Rattle.reader.proofs.FillLaws.{refusal_told, read_sound, read_unsound, sound_by}
use Rattle.reader.proofs.reading.read.Goals as goal

pub returns-then-is_err-clause-told : goal.returns-then-is_err-clause-told
returns-then-is_err-clause-told c =
    let a = c.args in
    let e = read_unsound a.book.now a.msg.now (length a.index.now) (sound_by c.check.result _ _ c.check.ensures c.is_err.ensures.value ∙ ap not c.if-is_err.true) in
    refusal_told _ _ 1 0 0 e (rw c.at.ensures refl) (rw c.at.ensures refl) (rw c.at.ensures refl)

pub returns-then-is_err-clause-index : goal.returns-then-is_err-clause-index
unfolding index_after
returns-then-is_err-clause-index c =
    let a = c.args in
    let e = read_unsound a.book.now a.msg.now (length a.index.now) (sound_by c.check.result _ _ c.check.ensures c.is_err.ensures.value ∙ ap not c.if-is_err.true) in
    rw e refl

pub returns-clause-told : goal.returns-clause-told
returns-clause-told c =
    let a = c.args in
    let e = read_sound a.book.now a.msg.now (length a.index.now) (sound_by c.check.result _ _ c.check.ensures c.is_err.ensures.value ∙ ap not c.if-is_err.false) in
    rw e c.read_checked.ensures.told

pub returns-clause-index : goal.returns-clause-index
returns-clause-index c =
    let a = c.args in
    let e = read_sound a.book.now a.msg.now (length a.index.now) (sound_by c.check.result _ _ c.check.ensures c.is_err.ensures.value ∙ ap not c.if-is_err.false) in
    rw e c.read_checked.ensures.index
