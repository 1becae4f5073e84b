use Rattle.std.proofs.Common.{◌≡◌, Err, rules, ap, sym, ◌∙◌}
use Rattle.book.specs.Check.{rule_of}
use Rattle.book.specs.Records.{records}
use Rattle.book.proofs.Checks.{rules_stop, rules_on, rules_last}
use Rattle.book.specs.Answers.{told}
use Rattle.book.proofs.GroupLaws.{grouped_of}
use Rattle.book.proofs.checking.rules.Goals as goal

pub returns-in_err-first_break : goal.returns-in_err-first_break
unfolding rule_of
returns-in_err-first_break c =
    let B = records c.args.book.now in
    let e : c.from_residual.result ≡ Err c.in_err-first_break.field-0.0 = search rules in
    rw e (rules_stop 7 2 B _ (c.first_break.ensures (rule_of 2 B) (λ r b q. search rules)) _ c.in_err-first_break.was)

pub returns-in_err-first_repeated : goal.returns-in_err-first_repeated
unfolding rule_of
returns-in_err-first_repeated c =
    let B = records c.args.book.now in
    let on2 = rules_on 7 2 B _ (c.first_break.ensures (rule_of 2 B) (λ r b q. search rules)) _ c.in_ok-first_break.was in
    let e : c.from_residual-in_err-first_repeated.result ≡ Err c.in_err-first_repeated.field-0.0 = search rules in
    rw e (rules_stop 6 3 B _ c.first_repeated.ensures _ c.in_err-first_repeated.was ∙ on2)

pub returns-in_err-first_break-2 : goal.returns-in_err-first_break-2
unfolding rule_of
returns-in_err-first_break-2 c =
    let B = records c.args.book.now in
    let on2 = rules_on 7 2 B _ (c.first_break.ensures (rule_of 2 B) (λ r b q. search rules)) _ c.in_ok-first_break.was in
    let on3 = rules_on 6 3 B _ c.first_repeated.ensures _ c.in_ok-first_repeated.was ∙ on2 in
    let e : c.from_residual-in_err-first_break-2.result ≡ Err c.in_err-first_break-2.field-0.0 = search rules in
    rw e (rules_stop 5 4 B _ (c.first_break-2.ensures (rule_of 4 B) (λ r b q. search rules)) _ c.in_err-first_break-2.was ∙ on3)

pub returns-in_err-first_undeclared : goal.returns-in_err-first_undeclared
unfolding rule_of
returns-in_err-first_undeclared c =
    let B = records c.args.book.now in
    let on2 = rules_on 7 2 B _ (c.first_break.ensures (rule_of 2 B) (λ r b q. search rules)) _ c.in_ok-first_break.was in
    let on3 = rules_on 6 3 B _ c.first_repeated.ensures _ c.in_ok-first_repeated.was ∙ on2 in
    let on4 = rules_on 5 4 B _ (c.first_break-2.ensures (rule_of 4 B) (λ r b q. search rules)) _ c.in_ok-first_break-2.was ∙ on3 in
    let e : c.from_residual-in_err-first_undeclared.result ≡ Err c.in_err-first_undeclared.field-0.0 = search rules in
    rw e (rules_stop 4 5 B _ c.first_undeclared.ensures _ c.in_err-first_undeclared.was ∙ on4)

pub returns-in_err-first_unpaired : goal.returns-in_err-first_unpaired
unfolding rule_of
returns-in_err-first_unpaired c =
    let B = records c.args.book.now in
    let on2 = rules_on 7 2 B _ (c.first_break.ensures (rule_of 2 B) (λ r b q. search rules)) _ c.in_ok-first_break.was in
    let on3 = rules_on 6 3 B _ c.first_repeated.ensures _ c.in_ok-first_repeated.was ∙ on2 in
    let on4 = rules_on 5 4 B _ (c.first_break-2.ensures (rule_of 4 B) (λ r b q. search rules)) _ c.in_ok-first_break-2.was ∙ on3 in
    let on5 = rules_on 4 5 B _ c.first_undeclared.ensures _ c.in_ok-first_undeclared.was ∙ on4 in
    let e : c.from_residual-in_err-first_unpaired.result ≡ Err c.in_err-first_unpaired.field-0.0 = search rules in
    rw e (rules_stop 3 6 B _ c.first_unpaired.ensures _ c.in_err-first_unpaired.was ∙ on5)

pub returns-in_err-first_break-3 : goal.returns-in_err-first_break-3
unfolding rule_of
returns-in_err-first_break-3 c =
    let B = records c.args.book.now in
    let on2 = rules_on 7 2 B _ (c.first_break.ensures (rule_of 2 B) (λ r b q. search rules)) _ c.in_ok-first_break.was in
    let on3 = rules_on 6 3 B _ c.first_repeated.ensures _ c.in_ok-first_repeated.was ∙ on2 in
    let on4 = rules_on 5 4 B _ (c.first_break-2.ensures (rule_of 4 B) (λ r b q. search rules)) _ c.in_ok-first_break-2.was ∙ on3 in
    let on5 = rules_on 4 5 B _ c.first_undeclared.ensures _ c.in_ok-first_undeclared.was ∙ on4 in
    let on6 = rules_on 3 6 B _ c.first_unpaired.ensures _ c.in_ok-first_unpaired.was ∙ on5 in
    let e : c.from_residual-in_err-first_break-3.result ≡ Err c.in_err-first_break-3.field-0.0 = search rules in
    rw e (rules_stop 2 7 B _ (c.first_break-3.ensures (rule_of 7 B) (λ r b q. search rules)) _ c.in_err-first_break-3.was ∙ on6)

pub returns-in_err-first_break-4 : goal.returns-in_err-first_break-4
unfolding rule_of
returns-in_err-first_break-4 c =
    let B = records c.args.book.now in
    let on2 = rules_on 7 2 B _ (c.first_break.ensures (rule_of 2 B) (λ r b q. search rules)) _ c.in_ok-first_break.was in
    let on3 = rules_on 6 3 B _ c.first_repeated.ensures _ c.in_ok-first_repeated.was ∙ on2 in
    let on4 = rules_on 5 4 B _ (c.first_break-2.ensures (rule_of 4 B) (λ r b q. search rules)) _ c.in_ok-first_break-2.was ∙ on3 in
    let on5 = rules_on 4 5 B _ c.first_undeclared.ensures _ c.in_ok-first_undeclared.was ∙ on4 in
    let on6 = rules_on 3 6 B _ c.first_unpaired.ensures _ c.in_ok-first_unpaired.was ∙ on5 in
    let on7 = rules_on 2 7 B _ (c.first_break-3.ensures (rule_of 7 B) (λ r b q. search rules)) _ c.in_ok-first_break-3.was ∙ on6 in
    let e : c.from_residual-in_err-first_break-4.result ≡ Err c.in_err-first_break-4.field-0.0 = search rules in
    rw e (rules_stop 1 8 B _ (c.first_break-4.ensures (rule_of 8 B) (λ r b q. search rules)) _ c.in_err-first_break-4.was ∙ on7)

pub first_nested-requires : goal.first_nested-requires
unfolding rule_of
first_nested-requires c = grouped_of (records c.args.book.now) (sym c.first_undeclared.ensures ∙ ap told c.in_ok-first_undeclared.was)

pub returns : goal.returns
unfolding rule_of
returns c =
    let B = records c.args.book.now in
    let on2 = rules_on 7 2 B _ (c.first_break.ensures (rule_of 2 B) (λ r b q. search rules)) _ c.in_ok-first_break.was in
    let on3 = rules_on 6 3 B _ c.first_repeated.ensures _ c.in_ok-first_repeated.was ∙ on2 in
    let on4 = rules_on 5 4 B _ (c.first_break-2.ensures (rule_of 4 B) (λ r b q. search rules)) _ c.in_ok-first_break-2.was ∙ on3 in
    let on5 = rules_on 4 5 B _ c.first_undeclared.ensures _ c.in_ok-first_undeclared.was ∙ on4 in
    let on6 = rules_on 3 6 B _ c.first_unpaired.ensures _ c.in_ok-first_unpaired.was ∙ on5 in
    let on7 = rules_on 2 7 B _ (c.first_break-3.ensures (rule_of 7 B) (λ r b q. search rules)) _ c.in_ok-first_break-3.was ∙ on6 in
    let on8 = rules_on 1 8 B _ (c.first_break-4.ensures (rule_of 8 B) (λ r b q. search rules)) _ c.in_ok-first_break-4.was ∙ on7 in
    rules_last 0 9 B _ c.first_nested.ensures ∙ on8
