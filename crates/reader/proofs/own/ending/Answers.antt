use mathlib.Core.Path.{◌≡◌, refl, sym, ap, ◌∙◌}
use Rattle.book.specs.Records.{members_of, records}
use Rattle.message.specs.Permitted.{none, lacks, lacking}
use Rattle.reader.specs.Filling.{f_ending}
use Rattle.reader.specs.Met.{miss_of}
use Rattle.reader.proofs.own.ending.Goals as goal

pub returns-in-Some : goal.returns-in-Some
unfolding f_ending
returns-in-Some c = λ seen marks.
    let e : lacking (records c.args.scan.now.page.book.now) none (members_of c.args.scan.now.page.own.now) seen ≡ lacks c.in-Some.tag = sym (c.lacking.ensures seen marks) ∙ ap miss_of c.in-Some.is in
    rw (e, c.at.ensures) (refl, (refl, refl, refl))

pub returns-in-None : goal.returns-in-None
unfolding f_ending
returns-in-None c = λ seen marks.
    let e : lacking (records c.args.scan.now.page.book.now) none (members_of c.args.scan.now.page.own.now) seen ≡ none = sym (c.lacking.ensures seen marks) ∙ ap miss_of c.in-None.is in
    rw e (refl, refl, refl, refl)
