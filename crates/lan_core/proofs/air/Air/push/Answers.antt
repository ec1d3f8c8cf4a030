use Rattle.std.proofs.Common.{◌≡◌, ◌∙◌, ◌+◌, ◌∷◌, ◌++◌, [], map, length, arith, rules, sym, ap, subst}
use Rattle.std.proofs.lemmas.Grind.{common_steps}
use Rattle.std.specs.Prelude.{sum}
use Rattle.lan_core.specs.inside.Limits.{IsLight}
use Rattle.mkpdu_codec.specs.Reading.{check_value}
use Rattle.lan_core.specs.inside.Repeats.{IsIndex}
use Rattle.lan_core.proofs.CheckPlaced.{found_more, last_found}
use Rattle.lan_core.proofs.air.Air.push.Goals as goal

pub invariant_of-self-2 : goal.invariant_of-self-2
invariant_of-self-2 c =
    let frames = c.self.inside.frames.items in
    let items : c.push.new.self.items ≡ frames ++ c.args.octets ∷ [] = search rules in
    let octets : c.self.inside.octets + c.len-more.result ≡ sum (map length (frames ++ c.args.octets ∷ [])) = grind (arith, common_steps) in
    let within : IsLight (frames ++ c.args.octets ∷ []) =
    subst (λ fs. IsLight (fs ++ c.args.octets ∷ [])) (sym c.self.view_is) c.requires in
    let valued : c.check_value.result ≡ check_value c.args.octets = c.check_value.ensures ∙ ap check_value c.as_slice.ensures.value in
    let last = last_found c.check_value.result c.args.octets c.add.new.self c.len-place.result (length frames) valued c.in_ok-add.ensures.found
    (c.len-place.ensures.len ∙ ap length (sym c.self.view_is)) in
    subst (λ now. IsIndex now (c.self.inside.octets + c.len-more.result) c.add.new.self) (sym items)
    (record {
      octets = octets;
      within = within;
      found = found_more frames c.args.octets c.self.inside.checks c.add.new.self c.self.invariant.found c.in_ok-add.ensures.kept last;
    })
