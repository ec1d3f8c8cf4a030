-- An emission moves no word: the words as they are follow what it shows.
use Rattle.std.proofs.Common.{◌≡◌, ℕ, true, List, [], ◌∷◌, Option, Some, None, refl, sym, ap}
use Rattle.std.proofs.Common.{◌∙◌, subst, arith}
use Rattle.std.specs.Prelude.{option_map, option_and_then}
use Rattle.lan_base.specs.declared.frame.UserFrame.{UserFrame}
use Rattle.association_slots.specs.Cards.{card_at}
use Rattle.association_slots.specs.Views.{ControlAt}
use Rattle.association_slots.specs.declared.view.ControlView.{ControlView}
use Rattle.lan_core.specs.declared.event.Event.{Event}
use Rattle.lan_core.specs.declared.event.Event.TheVariants.{Emit}
use Rattle.lan_core.specs.declared.fact.Fact.{Fact}
use Rattle.lan_core.specs.declared.fact.Fact.TheVariants as facts
use Rattle.lan_core.specs.declared.settings.Settings.{Settings}
use Rattle.lan_core.specs.Run.{Run, happened}
use Rattle.lan_core.specs.Claims.{Waiting, frame_of_claim, waiting}
use Rattle.lan_core.specs.Expected.{emit_facts, expected}
use Rattle.lan_core.specs.Legal.{IsStep}
use Rattle.group_safety.specs.Accounts.{Account}
use Rattle.group_safety.specs.Transmitting.{Carried, follow}
use Rattle.station_words.specs.Telling.{KeepUp, Tells}
use Rattle.station_words.specs.Ties.{CardsFollow, Followed, FollowsBy}

-- what a frame on the air moves of what a station transmits
framed-moves : (s n from : ℕ) (k : Carried) (o : Option (List ℕ)) (shown : List Fact)
    → option_map (λ (octets : List ℕ). facts.Framed n from true octets ∷ []) o ≡ Some shown
    → follow s shown k ≡ Some k
framed-moves s n from k None shown is = absurd (cc is)
framed-moves s n from k (Some octets) shown is =
    let same : facts.Framed n from true octets ∷ [] ≡ shown = cc is in
    subst (λ (l : List Fact). follow s l k ≡ Some k) same refl

emit-moves : (users : List UserFrame) (r : Run) (s : ℕ) (k : Carried) (o : Option Waiting)
    (shown : List Fact) → option_and_then (emit_facts users r) o ≡ Some shown
    → follow s shown k ≡ Some k
emit-moves users r s k None shown is = absurd (cc is)
emit-moves users r s k (Some w) shown is =
    framed-moves s _ w.station k (frame_of_claim users r w) shown is

shows-moves : (settings : Settings) (users : List UserFrame) (r : Run) (shown : List Fact) (s : ℕ)
    (k : Carried) → IsStep settings users (happened Emit shown) r → follow s shown k ≡ Some k
unfolding expected
shows-moves settings users r shown s k step =
    emit-moves users r s k (waiting settings r) shown step.shows

module _ (settings : Settings) (users : List UserFrame) (r : Run) (shown : List Fact)
    (step : IsStep settings users (happened Emit shown) r) where
  stays : (s : ℕ) (a k : Carried) → follow s shown a ≡ Some k → k ≡ a
  stays s a k is =
      let same : Some k ≡ Some a = sym is ∙ shows-moves settings users r shown s a step in cc same

  says : (Says : Account → ControlView → Type 0) (s : ℕ) (c : ControlAt)
      → FollowsBy Says s shown c c
  says Says s c a k said is =
      subst (λ (j : Carried). Says (record a { carried = j }) c.view) (sym (stays s a.carried k is))
      said

  cards : (s : ℕ) (c d : ControlAt) → d ≡ c
      → CardsFollow settings (happened Emit shown ∷ r) s shown c d
  cards s c d same a k up is =
      let many = ap (λ (j : Carried). j.installs) (stays s a.carried k is) in
      record {
        earlier = λ epoch above below. ap (λ (x : ControlAt). card_at x.view epoch) same;
        given = λ more. absurd (omega (arith, many, more));
      }

  unmoved : (cs : List ControlAt) → Followed settings (happened Emit shown ∷ r) shown cs cs
  unmoved cs held = record {
    many = refl;
    each = λ s d there. (
      d,
      there,
      record {
        tells = says Tells s d;
        keeps_up = says KeepUp s d;
        seats = refl;
      },
    );
    cards = λ s c d old new. cards s c d (let both : Some d ≡ Some c = sym new ∙ old in cc both);
  }

pub unmoved-by : (settings : Settings) (users : List UserFrame) (r : Run) (event : Event)
    (shown : List Fact) → event ≡ Emit → IsStep settings users (happened event shown) r
    → (cs : List ControlAt) → Followed settings (happened event shown ∷ r) shown cs cs
unmoved-by settings users r event shown is step cs =
    subst (λ (e : Event). Followed settings (happened e shown ∷ r) shown cs cs) (sym is)
    (unmoved settings users r shown
    (subst (λ (e : Event). IsStep settings users (happened e shown) r) is step) cs)
