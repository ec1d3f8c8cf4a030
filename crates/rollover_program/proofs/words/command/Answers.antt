use Rattle.std.proofs.Common.{ap, ap₂, refl, codes, true, ◌≡◌, ◌∙◌}
use Rattle.std.proofs.lemmas.Result.{IfOk-weaker}
use Rattle.clap.specs.Words.{App, Shape, app_of, new_app, shape_of, with_rule}
use Rattle.clap.specs.Words.{with_subcommand}
use Rattle.clap.specs.Simple.{app_of_fields, on_top}
use Rattle.rollover_program.specs.Words.{audit, bare, flag, number, plain, subcommand}
use Rattle.rollover_program.proofs.words.command.Goals as goal

pub returns : goal.returns
returns c =
    let bare_is : app_of c.subcommand_required-rollover.result
    ≡ on_top bare (new_app (codes "rollover")) =
    ap app_of_fields c.subcommand_required-rollover.ensures
    ∙ ap (on_top (λ (s : Shape). record s { subcommand_required = true }))
    (ap app_of_fields c.disable_version_flag.ensures
    ∙ ap (on_top (λ (s : Shape). record s { disable_version_flag = true }))
    (ap app_of_fields c.disable_help_subcommand.ensures
    ∙ ap (on_top (λ (s : Shape). record s { disable_help_subcommand = true }))
    (ap app_of_fields c.disable_help_flag.ensures
    ∙ ap (on_top (λ (s : Shape). record s { disable_help_flag = true }))
    (ap app_of_fields c.no_binary_name.ensures
    ∙ ap (on_top (λ (s : Shape). record s { no_binary_name = true })) c.new-4.ensures.app)))) in
    let run_is : shape_of c.in_ok-arg-6.field-0 ≡ subcommand (codes "run") (flag (codes "summary")) =
    ap (λ (a : App). a.top) (c.in_ok-arg-6.ensures.shape c.flag-5.ensures.local
    ∙ ap₂ with_rule c.new-5.ensures.app c.flag-5.ensures.rule) in
    let make_is : shape_of c.in_ok-arg-7.field-0 ≡ subcommand (codes "make") number =
    ap (λ (a : App). a.top) (c.in_ok-arg-7.ensures.shape c.number.ensures.local
    ∙ ap₂ with_rule c.new-6.ensures.app c.number.ensures.rule) in
    let try_is : shape_of c.in_ok-arg-8.field-0 ≡ subcommand (codes "try") number =
    ap (λ (a : App). a.top) (c.in_ok-arg-8.ensures.shape c.number-2.ensures.local
    ∙ ap₂ with_rule c.new-7.ensures.app c.number-2.ensures.rule) in
    let one_is = c.in_ok-subcommand.ensures.shape
    (rw (c.in_ok-arg-6.ensures.globals, c.new-5.ensures.local, c.flag-5.ensures.local) refl)
    ∙ ap₂ with_subcommand bare_is run_is in
    let two_is = c.in_ok-subcommand-2.ensures.shape
    (rw (c.in_ok-arg-7.ensures.globals, c.new-6.ensures.local, c.number.ensures.local) refl)
    ∙ ap₂ with_subcommand one_is make_is in
    let three_is = c.in_ok-subcommand-3.ensures.shape (rw (
      c.in_ok-arg-8.ensures.globals,
      c.new-7.ensures.local,
      c.number-2.ensures.local,
    ) refl) ∙ ap₂ with_subcommand two_is try_is in
    let check_is : shape_of c.new-8.result ≡ plain (codes "check") =
    ap (λ (a : App). a.top) c.new-8.ensures.app in
    let four_is = c.in_ok-subcommand-4.ensures.shape (rw c.new-8.ensures.local refl)
    ∙ ap₂ with_subcommand three_is check_is in
    let capture_is : shape_of c.new-9.result ≡ plain (codes "capture") =
    ap (λ (a : App). a.top) c.new-9.ensures.app in
    let five_is = c.in_ok-subcommand-5.ensures.shape (rw c.new-9.ensures.local refl)
    ∙ ap₂ with_subcommand four_is capture_is in
    let dissect_is : shape_of c.new-10.result ≡ plain (codes "dissect") =
    ap (λ (a : App). a.top) c.new-10.ensures.app in
    let six_is = c.in_ok-subcommand-6.ensures.shape (rw c.new-10.ensures.local refl)
    ∙ ap₂ with_subcommand five_is dissect_is in
    let roll_is : shape_of c.new-11.result ≡ plain (codes "roll") =
    ap (λ (a : App). a.top) c.new-11.ensures.app in
    let seven_is = c.in_ok-subcommand-7.ensures.shape (rw c.new-11.ensures.local refl)
    ∙ ap₂ with_subcommand six_is roll_is in
    let draw_is : shape_of c.new-12.result ≡ plain (codes "draw") =
    ap (λ (a : App). a.top) c.new-12.ensures.app in
    let eight_is = c.in_ok-subcommand-8.ensures.shape (rw c.new-12.ensures.local refl)
    ∙ ap₂ with_subcommand seven_is draw_is in
    let audit_is : shape_of c.in_ok-audit.audit ≡ audit =
    ap (λ (a : App). a.top) (c.in_ok-audit.ensures.shape c.new-3.ensures.optional.1
    ∙ ap₂ with_rule (c.in_ok-arg-5.ensures.shape c.new-2.ensures.optional.1
    ∙ ap₂ with_rule (c.in_ok-arg-4.ensures.shape c.flag-4.ensures.local
    ∙ ap₂ with_rule (c.in_ok-arg-3.ensures.shape c.flag-3.ensures.local
    ∙ ap₂ with_rule (c.in_ok-arg-2.ensures.shape c.flag-2.ensures.local
    ∙ ap₂ with_rule (c.in_ok-arg.ensures.shape c.flag.ensures.local
    ∙ ap₂ with_rule c.new.ensures.app c.flag.ensures.rule) c.flag-2.ensures.rule) c.flag-3.ensures.rule)
    c.flag-4.ensures.rule) c.new-2.ensures.rule) c.new-3.ensures.rule) in
    IfOk-weaker c.subcommand-9.result _ _
    (λ r h. h.shape (rw (
      c.in_ok-audit.ensures.globals,
      c.in_ok-arg-5.ensures.globals,
      c.in_ok-arg-4.ensures.globals,
      c.in_ok-arg-3.ensures.globals,
      c.in_ok-arg-2.ensures.globals,
      c.in_ok-arg.ensures.globals,
      c.new.ensures.local,
      c.flag.ensures.local,
      c.flag-2.ensures.local,
      c.flag-3.ensures.local,
      c.flag-4.ensures.local,
      c.new-2.ensures.optional.1,
      c.new-3.ensures.optional.1,
    ) refl) ∙ ap₂ with_subcommand eight_is audit_is)
    c.subcommand-9.ensures
