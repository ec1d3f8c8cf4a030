-- From the words before an event to those after it.
use Rattle.std.proofs.Common.{◌≡◌, ◌⊎◌, inl, inr, ⊎_elim, ℕ, zero, suc, ◌+◌, List, [], ◌∷◌, ◌++◌, length}
use Rattle.std.proofs.Common.{Some, refl, sym, ap, ◌∙◌, subst}
use Rattle.std.proofs.lemmas.List.{length-append}
use Rattle.std.specs.Prelude.{◌==◌, ◌&&◌, nat_lt, slice_get, Contains, is_some}
use Rattle.lan_base.specs.declared.name.Name.{Name}
use Rattle.lan_base.specs.declared.address.Sci.{Sci}
use Rattle.lan_base.specs.declared.key_id.KeyId.{KeyId}
use Rattle.lan_base.specs.declared.association_number.AssociationNumber.{AssociationNumber}
use Rattle.aes_block.specs.declared.secret.Secret.{Secret}
use Rattle.association_slots.specs.Views.{ControlAt}
use Rattle.association_slots.specs.declared.view.ControlView.{ControlView}
use Rattle.sak_exchange.specs.declared.held_key.HeldKey.{HeldKey}
use Rattle.sak_exchange.proofs.Public.{by_test}
use Rattle.lan_core.specs.declared.event.Event.{Event}
use Rattle.lan_core.specs.declared.event.Event.TheVariants as events
use Rattle.lan_core.specs.declared.fact.Fact.TheVariants as facts
use Rattle.lan_core.specs.declared.settings.Settings.{Settings}
use Rattle.lan_core.specs.Run.{Run, Happening, stations, started}
use Rattle.lan_core.specs.Keys.{held_at}
use Rattle.group_safety.specs.Transmitting.{Carried, nothing, now, follow, CarriesAt}
use Rattle.group_safety.specs.Accounts.{Account, blank, account_at, ahead, onward, claiming, gaining}
use Rattle.lan_core.specs.declared.fact.Fact.{Fact}
use Rattle.station_words.specs.Telling.{KeepUp, CatchUp}
use Rattle.station_words.specs.Ties.{IsTiedBy, AreTiedBy, AreAheadBy, FollowsBy, Follows, Followed}
use Rattle.station_words.specs.Ties.{HaveKeptUp, HaveCaughtUp, HaveClaimsBeside, AreToldAll}
use Rattle.station_words.specs.Seats.{AreAllIn}
use Rattle.station_words.proofs.Catching.{caught-still, caught-beside}

claiming-carried : (a : Account) → (claiming a).carried ≡ a.carried
claiming-carried a = by_test (now a.carried).present (λ y. rw y refl) (λ y. rw y refl)

gaining-carried : (n : ℕ) (a : Account) → (gaining n a).carried ≡ a.carried
gaining-carried n a = by_test ((now a.carried).present && nat_lt 0 n) (λ y. rw y refl) (λ y. rw y refl)

-- a step that is taken carries on what was carried
pub ahead-carried : (s : ℕ) (e : Event) (a : Account) → (ahead s e a).carried ≡ a.carried
ahead-carried s (events.Start name sci priority) a = refl
ahead-carried s (events.Tick t n) a = by_test (t == s) (λ y. rw y refl) (λ y. rw y refl)
ahead-carried s (events.Deliver frame t) a = refl
ahead-carried s (events.Restart t) a = refl
ahead-carried s (events.Claim t user pn) a = by_test (t == s) (λ y. rw y (claiming-carried a)) (λ y. rw y refl)
ahead-carried s events.Emit a = refl
ahead-carried s (events.Inject t octets) a = refl

stations-more : (x : Happening) (r : Run) → stations (x ∷ r) ≡ stations r ++ started x.event
unfolding stations
stations-more x r = refl

pub onward-carried : (s : ℕ) (e : Event) (a : Account) → (onward s e a).carried ≡ a.carried
onward-carried s (events.Start name sci priority) a = refl
onward-carried s (events.Tick t n) a = by_test (t == s) (λ y. rw y refl) (λ y. rw y refl)
onward-carried s (events.Deliver frame t) a = refl
onward-carried s (events.Restart t) a = refl
onward-carried s (events.Claim t user pn) a = by_test (t == s) (λ y. rw y (gaining-carried pn a)) (λ y. rw y refl)
onward-carried s events.Emit a = refl
onward-carried s (events.Inject t octets) a = refl

-- by the laws of the run
module _ (Says : Account → ControlView → Type 0) (takes : ℕ → Event → Account → Account)
    (carried-on : (s : ℕ) (e : Event) (a : Account) → (takes s e a).carried ≡ a.carried)
    (settings : Settings) (x : Happening) (r : Run) (cs ds : List ControlAt)
    (says : (s : ℕ) (c d : ControlAt) → Follows s x.facts c d → FollowsBy Says s x.facts c d) where
  pub tied-by : ((s : ℕ) (k : Carried) → CarriesAt settings s r k → (j : Carried) × (follow s x.facts k ≡ Some j) × CarriesAt settings s (x ∷ r) j)
      → ((s : ℕ) (id : KeyId) (an : AssociationNumber) (epoch : ℕ) (sak : Secret) → Contains x.facts (facts.Installed s id an epoch sak)
      → (h : HeldKey) × (held_at settings s (x ∷ r) an ≡ Some h) × (h.key.epoch ≡ epoch) × (h.key.sak ≡ sak))
      → ((s : ℕ) (k j : Carried) → CarriesAt settings s r k → account_at settings s (x ∷ r) j ≡ record (takes s x.event (account_at settings s r k)) { carried = j })
      → AreAheadBy Says takes settings r x.event cs → Followed settings (x ∷ r) x.facts cs ds → AreTiedBy Says settings (x ∷ r) ds
  tied-by moves held on before followed =
      let f = followed (λ s id an epoch sak has. ap is_some (held s id an epoch sak has).1) in record {
        many = f.many ∙ (before.many ∙ ap length (sym (stations-more x r)));
        each = λ s d there. let y = f.each s d there in
            let a = before.each s y.0 y.1 in
            let m = moves s a.0 a.1 in
            let l : Account = takes s x.event (account_at settings s r a.0) in
            let at : l.carried ≡ a.0 = carried-on s x.event (account_at settings s r a.0) in
            (m.0, m.2, subst (λ (w : Account). Says w d.view) (sym (on s a.0 m.0 a.1)) (says s y.0 d y.2 l m.0 a.2 (ap (λ (q : Carried). follow s x.facts q) at ∙ m.1)));
      }

-- words that say one thing of a run say another of it
pub tied-also : (Says Means : Account → ControlView → Type 0) (settings : Settings) (r : Run) (cs : List ControlAt) → ((a : Account) (c : ControlView) → Says a c → Means a c) → AreTiedBy Says settings r cs → AreTiedBy Means settings r cs
tied-also Says Means settings r cs so tied = record {
  many = tied.many;
  each = λ s c there. let a = tied.each s c there in (a.0, a.1, so _ c.view a.2);
}

-- one stands behind others
at-last : (cs : List ControlAt) (c : ControlAt) (s : ℕ) (d : ControlAt) → slice_get (cs ++ c ∷ []) s ≡ Some d → (slice_get cs s ≡ Some d) ⊎ ((s ≡ length cs) × (c ≡ d))
at-last [] c zero d is = inr (refl, cc is)
at-last [] c (suc s) d is = absurd (cc is)
at-last (x ∷ cs) c zero d is = inl is
at-last (x ∷ cs) c (suc s) d is = ⊎_elim (λ (here : slice_get cs s ≡ Some d). inl here) (λ (last : (s ≡ length cs) × (c ≡ d)). inr (ap suc last.0, last.1)) (at-last cs c s d is)

-- words for a station that is about to start
pub tied-new : (Says : Account → ControlView → Type 0) (takes : ℕ → Event → Account → Account) (settings : Settings) (r : Run) (name : Name) (sci : Sci) (priority : ℕ) (cs : List ControlAt) (c : ControlAt)
    → ((s : ℕ) (a : Account) → takes s (events.Start name sci priority) a ≡ a)
    → CarriesAt settings (length (stations r)) r nothing × (account_at settings (length (stations r)) r nothing ≡ blank) → AreTiedBy Says settings r cs → Says blank c.view
    → AreAheadBy Says takes settings r (events.Start name sci priority) (cs ++ c ∷ [])
tied-new Says takes settings r name sci priority cs c takes_none none tied says = record {
  many = length-append cs (c ∷ []) ∙ (ap (λ (n : ℕ). n + 1) tied.many ∙ sym (length-append (stations r) (started (events.Start name sci priority))));
  each = λ s d there. let k = here s d (at-last cs c s d there) in
      (k.0, k.1, subst (λ (a : Account). Says a d.view) (sym (takes_none s (account_at settings s r k.0))) k.2);
}
  where
    here : (s : ℕ) (d : ControlAt) → (slice_get cs s ≡ Some d) ⊎ ((s ≡ length cs) × (c ≡ d)) → IsTiedBy Says settings s r d
    here s d (inl there) = tied.each s d there
    here s d (inr last) = subst (λ (n : ℕ). IsTiedBy Says settings n r d) (sym (last.0 ∙ tied.many))
        (nothing, none.0, subst (λ (v : ControlAt). Says (account_at settings (length (stations r)) r nothing) v.view) last.1 (subst (λ (a : Account). Says a c.view) (sym none.1) says))

-- where words follow facts, they stay caught up
pub follows-caught : (s : ℕ) (shown : List Fact) (c d : ControlAt) → Follows s shown c d → FollowsBy CatchUp s shown c d
follows-caught s shown c d f l k caught is = caught-still l (record l { carried = k }) c.view d.view caught (f.keeps_up l k caught.keep_up is) f.seats refl

-- once all seats came back
pub tied-beside : (settings : Settings) (q r : Run) (cs : List ControlAt) → HaveKeptUp settings q cs → AreAllIn cs → HaveClaimsBeside settings q r → AreToldAll r cs → HaveCaughtUp settings r cs
tied-beside settings q r cs up all_in beside told_all = record {
  many = up.many ∙ sym beside.many;
  each = λ s c there. let a = up.each s c there in let b = beside.each s a.0 a.1 in
      (a.0, b.0, caught-beside (account_at settings s q a.0) (account_at settings s r a.0) c.view a.2 (all_in s c there) b.1 (told_all s c there));
}

-- words that have caught up keep up, and no seat is out
pub caught-kept : (settings : Settings) (r : Run) (cs : List ControlAt) → HaveCaughtUp settings r cs → HaveKeptUp settings r cs × AreAllIn cs × AreToldAll r cs
caught-kept settings r cs caught = (
  tied-also CatchUp KeepUp settings r cs (λ a c t. t.keep_up) caught,
  λ s c there. (caught.each s c there).2.all_in,
  λ s c there. (caught.each s c there).2.claims,
)
