use Rattle.std.proofs.Common.{◌∙◌, ◌∷◌, ℕ, sym, ap}
use Rattle.std.specs.Prelude.{Option, unwrap_or, length}
use Rattle.audit_report.specs.declared.finding.Handed.TheVariants.{Key as HandedKey}
use Rattle.known_keys.specs.History.{keys, Gave}
use Rattle.known_keys.specs.declared.gives.Gives.{Gives}
use Rattle.known_keys.specs.declared.giving.Giving.TheVariants.{Key}
use Rattle.known_keys.specs.Telling.{told_of}
use Rattle.capture_audit.proofs.Filling.{not-full}
use Rattle.capture_audit.proofs.handing.hand_key.Goals as goal

pub returns-clause-hands : goal.returns-clause-hands
returns-clause-hands c = λ told stands.
    let all = c.in_ok-told.ensures in
    let gift = c.args.gift.now in
    let number = ap (λ (o : Option ℕ). unwrap_or o 0) (all.number told stands) in
    let is = all.told told stands
    ∙ ap (λ (key : ℕ). told_of told c.args.group gift.id gift.an gift.offset key) (sym number) in (
      ap (λ (it : Gives). HandedKey gift.id gift.an gift.offset c.args.sak it) is,
      all.gave told stands,
      not-full _ _ (length (keys (Gave c.args.packet c.args.nanos c.args.group gift.id gift.an (Key gift.offset c.args.sak) ∷ told))) (all.full told stands),
    )
