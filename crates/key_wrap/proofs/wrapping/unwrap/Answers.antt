use Rattle.std.proofs.Common.{◌≡◌, List, ℕ, drop, ap, ◌∙◌, arith, rules, Some, true, refl}
use Rattle.std.proofs.lemmas.List.{length-drop, take_all}
use Rattle.aes_block.specs.Aes.{IsOctets}
use Rattle.key_wrap.specs.Wrap.{wrapped}
use Rattle.key_wrap.proofs.wrapping.unwrap.Goals as goal

is_rest : (c : goal.After-key_of) → c.key_of.result ≡ drop 8 c.is_undone.new.state
is_rest c =
    let rest = drop 8 c.is_undone.new.state in
    c.key_of.ensures.value ∙ take_all 16 rest (omega (arith, length-drop 8 c.is_undone.new.state))

wraps : (c : goal.After-key_of) → wrapped c.args.kek.now c.key_of.result ≡ c.args.octets.now
wraps c =
    let yes : c.is_undone.result ≡ true = search rules in
    ap (wrapped c.args.kek.now) (is_rest c) ∙ c.is_undone.ensures.wrap yes

pub returns-clause-some : goal.returns-clause-some
returns-clause-some c = wraps c

pub returns-clause-only : goal.returns-clause-only
returns-clause-only c = λ sak o e.
    let is = c.is_undone.ensures.only sak 16 (omega arith) o e in
    ap Some (is_rest c ∙ is.1)

pub returns-clause-none : goal.returns-clause-none
returns-clause-none c =
    (λ h. cc, λ h. absurd (h c.key_of.result c.key_of.ensures.octets (wraps c)))

no_key : (c : goal.Then-not-is_undone) → (sak : List ℕ) → IsOctets 16 sak → wrapped c.args.kek.now sak ≡ c.args.octets.now → ⊥
no_key c sak o e =
    let is = c.is_undone.ensures.only sak 16 (omega arith) o e in
    let yes = is.0 in
    cc

pub returns-then-not-is_undone-clause-only : goal.returns-then-not-is_undone-clause-only
returns-then-not-is_undone-clause-only c = λ sak o e. absurd (no_key c sak o e)

pub returns-then-not-is_undone-clause-none : goal.returns-then-not-is_undone-clause-none
returns-then-not-is_undone-clause-none c = (λ _. no_key c, λ _. refl)
