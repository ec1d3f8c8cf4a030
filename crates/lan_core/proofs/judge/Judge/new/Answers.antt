use Rattle.std.proofs.Common.{List, ℕ, sym, subst}
use Rattle.std.specs.Prelude.{Err}
use Rattle.mkpdu_codec.specs.declared.refusal.Refusal.TheVariants.{NotMka}
use Rattle.mka_station.specs.declared.verdict.DropReason.TheVariants.{Unspelled}
use Rattle.lan_core.specs.inside.Judge.{IsJudged}
use Rattle.lan_core.proofs.JudgedAlike.{nothing-judged}
use Rattle.lan_core.proofs.judge.Judge.new.Goals as goal

pub invariant_of-result : goal.invariant_of-result
invariant_of-result c = record {
  named = c.requires;
  keys = tt;
  judged = subst (λ (octets : List ℕ). IsJudged c.args.settings octets (Err (Unspelled NotMka))) (sym c.new.ensures)
      (nothing-judged c.args.settings);
}
