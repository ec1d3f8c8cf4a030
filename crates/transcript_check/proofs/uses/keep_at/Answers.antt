use Rattle.std.proofs.Common.{◌≡◌, ◌∙◌, inl, ℕ, List, refl, ap, sym, subst}
use Rattle.std.specs.Prelude.{IsSome, Option}
use Rattle.std.specs.BTreeMap.{BTreeMap, is_at}
use Rattle.std.specs.Map.{set_value}
use Rattle.std.proofs.lemmas.Map.Steps.{set_value_same}
use Rattle.transcript_check.specs.Standing.{Lines, fresh, sak_cmp}
use Rattle.transcript_check.specs.inside.Steps.{OwnIsPut}
use Rattle.transcript_check.proofs.Puts.{own_put, kept_under, if_ok, on_err}
use Rattle.transcript_check.proofs.uses.keep_at.Goals as goal

pub returns-in-Some-clause-line : goal.returns-in-Some-clause-line
returns-in-Some-clause-line g c =
    let key : ℕ × List ℕ = (c.station_of.result, c.args.octets) in
    let holds = c.get_mut.follows.holds c.keep.new.self in
    let now = holds.3 (subst (λ (o : Option Lines). IsSome o) c.in-Some.ensures.value refl) in
    rw (sym c.station_of.ensures) (if_ok c.keep.result
    (λ line kept. kept_under key c.args.claim.place c.args.claim.epoch c.args.claim.pn c.args.claim.number _ _ _ _ c.in-Some.uses.now c.keep.new.self
    (sym c.in-Some.ensures.value) (own_put key c.keep.new.self _ _ now.0 now.1)
    (λ same. holds.0
    ∙ ap (λ (own : Lines). set_value (is_at (sak_cmp key)) c.args.lines.now.entries own) same
    ∙ set_value_same (is_at (sak_cmp key)) c.args.lines.now.entries c.in-Some.uses.now
    (sym c.in-Some.ensures.value))
    line kept)
    c.keep.ensures.line)

pub returns-in-Some-clause-kept : goal.returns-in-Some-clause-kept
returns-in-Some-clause-kept g c =
    let key : ℕ × List ℕ = (c.station_of.result, c.args.octets) in
    on_err c.keep.result
    (λ kept. (
      (c.get_mut.follows.holds c.keep.new.self).0
          ∙ ap (λ (own : Lines). set_value (is_at (sak_cmp key)) c.args.lines.now.entries own) kept.0
          ∙ set_value_same (is_at (sak_cmp key)) c.args.lines.now.entries c.in-Some.uses.now
          (sym c.in-Some.ensures.value),
      kept.1,
    ))
    c.keep.ensures.kept

pub returns-clause-line : goal.returns-clause-line
returns-clause-line g c =
    let key : ℕ × List ℕ = (c.station_of.result, c.args.octets) in
    let left = c.get_mut.follows.lender-at-none in
    let same : left ≡ c.args.lines.now = c.get_mut.follows.holds-at-none in
    let put : OwnIsPut key c.of.result left.entries c.insert.new.self.entries =
    own_put key c.of.result left.entries c.insert.new.self.entries (λ q. c.in_ok-insert.ensures.updates.0 q)
    c.in_ok-insert.ensures.updates.1 in
    rw (sym c.station_of.ensures) (inl (record {
      none = sym c.in_default.ensures.value;
      put = subst (λ (m : BTreeMap (ℕ × List ℕ) Lines).
          OwnIsPut key (fresh c.args.claim.place c.args.claim.epoch c.args.claim.pn c.args.claim.number) m.entries c.insert.new.self.entries) same
          (subst (λ (own : Lines). OwnIsPut key own left.entries c.insert.new.self.entries) c.of.ensures put);
      same = refl;
    }))
