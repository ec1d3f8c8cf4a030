-- A key that is made is new: no key that was installed before has its identifier.
use Rattle.std.proofs.Common.{◌≡◌, refl, sym, ap, ◌∙◌, subst, inl, inr, ℕ, List, [], ◌∷◌}
use Rattle.std.proofs.Common.{Some}
use Rattle.std.specs.Prelude.{Contains, option_map}
use Rattle.lan_base.specs.Differing.{AllDiffer}
use Rattle.lan_base.specs.declared.frame.UserFrame.{UserFrame}
use Rattle.aes_block.specs.Secrets.{secret_octets}
use Rattle.sak_exchange.specs.declared.held_key.Key.{Key}
use Rattle.mka_station.specs.Announcing.{frame_of}
use Rattle.mka_station.specs.Tick.{says_at}
use Rattle.lan_core.specs.declared.event.Event.TheVariants as events
use Rattle.lan_core.specs.declared.fact.Fact.{Fact}
use Rattle.lan_core.specs.declared.settings.Settings.{Settings}
use Rattle.lan_core.specs.Run.{Run, Happening, happened}
use Rattle.lan_core.specs.Ledgers.{Install, installs, next_frame, with_one}
use Rattle.lan_core.specs.Lives.{Life, life, seen_at, sak_in}
use Rattle.lan_core.specs.Legal.{IsStepped}
use Rattle.lan_core.specs.Fresh.{IsFresh, IsUnforged, drawn_saks}
use Rattle.lan_core.proofs.Public.{front-fresh}
use Rattle.group_safety.specs.Once.{OneKey}
use Rattle.group_safety.proofs.Public.{In, in-contains, contains-in, differs-in}
use Rattle.group_safety.proofs.Public.{known, run-one_key, run-drawn, install_by, tick_key}
use Rattle.group_safety.proofs.Public.{IsGist, installed_at, sent_frame, installs-next, drawn-next}
use Rattle.group_safety.proofs.Public.{drawn-is}
use Rattle.clean_audits.proofs.Reported.{tick-installs}

pub new-id : (settings : Settings) (users : List UserFrame) (s next : ℕ) (f : List Fact) (r : Run)
    (l : Life) (key : Key) (i : Install)
    → IsStepped settings users (happened (events.Tick s next) f ∷ r)
    → IsFresh (happened (events.Tick s next) f ∷ r)
    → IsUnforged settings (happened (events.Tick s next) f ∷ r)
    → life settings s r ≡ Some l
    → tick_key l.member (seen_at settings s r l next) (sak_in f) l.past ≡ Some key
    → In i (installs r) → i.id ≡ key.id → ⊥
new-id settings users s next f r l key i stepped fresh unforged living made there same =
    differs-in (secret_octets key.sak) (secret_octets i.sak) (drawn_saks r) differ.0
    (contains-in (drawn_saks r) (secret_octets i.sak) before) (ap secret_octets (sym saks))
  where
    x : Happening
    x = happened (events.Tick s next) f

    gist : IsGist f [] (installed_at s (Some key))
        (sent_frame (next_frame r) s (option_map (frame_of l.member.setup)
        (says_at l.member (seen_at settings s r l next) (sak_in f) l.past))) []
    gist = subst (λ w. IsGist f [] (installed_at s w)
        (sent_frame (next_frame r) s (option_map (frame_of l.member.setup)
        (says_at l.member (seen_at settings s r l next) (sak_in f) l.past))) [])
        made (tick-installs settings users s next f r l stepped.0 living)

    grown : installs (x ∷ r) ≡ install_by s key ∷ installs r
    grown = installs-next x r gist

    one : OneKey (x ∷ r)
    one = run-one_key settings users (x ∷ r) (known settings users (x ∷ r) stepped unforged) fresh

    saks : i.sak ≡ key.sak
    saks = (one i (install_by s key)
        (in-contains (installs (x ∷ r)) i (subst (λ w. In i w) (sym grown) (inr there)))
        (in-contains (installs (x ∷ r)) (install_by s key)
        (subst (λ w. In (install_by s key) w) (sym grown) (inl refl))) same).0

    before : Contains (drawn_saks r) (secret_octets i.sak)
    before = (run-drawn settings users r (known settings users r stepped.1 unforged.1)
        (front-fresh (x ∷ []) r fresh) i (in-contains (installs r) i there)).1.drawn

    drawn : drawn_saks (x ∷ r) ≡ secret_octets key.sak ∷ drawn_saks r
    drawn = drawn-next x r ∙ ap (λ o. with_one (option_map secret_octets o) (drawn_saks r))
        (drawn-is f s (Some key) gist)

    differ : AllDiffer (secret_octets key.sak ∷ drawn_saks r)
    differ = subst AllDiffer drawn fresh.saks
