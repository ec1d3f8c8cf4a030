-- A run that meets the premises: two stations, one key, and one protected frame. And what the
-- definitions say.
use Rattle.std.proofs.Common.{◌≡◌, ◌<◌, ◌≤◌, refl, sym, ap, ◌∙◌, subst, inl, inr, ℕ, List, [], ◌∷◌, length, true}
use Rattle.std.proofs.Common.{Some, is_some, arith, length-append}
use Rattle.std.specs.Prelude.{Contains, option_and_then, slice_get, slice_index}
use Rattle.lan_base.specs.declared.association_number.AssociationNumber.TheVariants.{An0}
use Rattle.audit_report.specs.declared.finding.Finding.TheVariants as findings
use Rattle.gcm_frames.specs.Protected.{iv, protected}
use Rattle.gcm_frames.proofs.Public.{Encrypts, encrypts, length-gcm_tag, length-gcm_text}
use Rattle.sak_exchange.specs.Held.{transmitting}
use Rattle.lan_core.specs.declared.event.Event.TheVariants as events
use Rattle.lan_core.specs.declared.fact.Fact.TheVariants as facts
use Rattle.lan_core.specs.Claims.{claimed, waiting, waiting_under}
use Rattle.lan_core.specs.Expected.{emit_facts, expected}
use Rattle.lan_core.specs.Fresh.{drawn_saks, IsFresh, IsUnforged}
use Rattle.lan_core.specs.Ledgers.{air, births, Frame, Install, installs}
use Rattle.lan_core.specs.Legal.{IsLegal, none_ahead}
use Rattle.lan_core.specs.Lives.{keys_in, Life, transmitting_at}
use Rattle.lan_core.specs.Run.{Happening, happened, Run}
use Rattle.lan_core.proofs.Public.{others-change-none}
use Rattle.group_safety.specs.worked.Group.{alice, octets_of_sak, sak, settings, user}
use Rattle.group_safety.proofs.Public.{a-user, both, claim-moves, contains-in, encrypts as encrypts-block, first_key, goes-on, In}
use Rattle.group_safety.proofs.Public.{in-contains, l11, new-short, none-some, opens, r11, sak_is, Scene, sci_is, users, v11}
use Rattle.clean_audits.specs.Clean.{AreCaptured, IsRightAndNew, IsSealedOnce}

-- ---- alice claims the number 1, and the frame goes on the air

abbrev claims : Happening
claims = happened (events.Claim 0 1 1) (facts.Claimed 0 An0 1 1 ∷ [])

abbrev carried : List ℕ
carried = protected (octets_of_sak 1) alice.sci An0 1 true user

abbrev frame : Frame
frame = record { number = 6; station = 0; sec = true; octets = carried }

abbrev emits : Happening
emits = happened events.Emit (facts.Framed 6 0 true carried ∷ [])

abbrev run : Run
run = emits ∷ claims ∷ r11

is_claimed : Scene users both (claims ∷ r11) l11
unfolding opens
is_claimed =
    claim-moves users both r11 l11 0 1 1 first_key _ v11 refl (omega arith)
    (omega arith, omega arith, omega arith)
    refl refl (omega arith) (omega arith) a-user refl refl refl (λ ahead. refl)

works : Encrypts (octets_of_sak 1) (iv alice.sci 1)
works = encrypts (octets_of_sak 1) alice.sci 1 encrypts-block
    (record { count = inl refl; octets = (sak_is 1 refl).1 }) (sci_is 10 refl)

carried_length : length carried ≡ 47
carried_length =
    let text = λ (t : List ℕ). length-gcm_text (octets_of_sak 1) (iv alice.sci 1) t works in
    let tag = λ (h t : List ℕ). length-gcm_tag (octets_of_sak 1) (iv alice.sci 1) h t works in
    simp (length-append, text, tag) (omega arith)

transmits : transmitting_at settings 0 r11 ≡ Some first_key
unfolding opens
transmits = ap (option_and_then (λ (w : Life). transmitting (keys_in w))) (v11.living 0 (omega arith))

waits : waiting settings (claims ∷ r11)
    ≡ Some (record { station = 0; key = first_key; pn = 1; user = 1 })
unfolding opens claimed
waits = ap (λ o. slice_get (waiting_under 0 1 1 o) 0) transmits

short : (f : Frame) → In f (frame ∷ []) → length f.octets ≤ 70000
short f (inl e) =
    subst (λ (w : Frame). length w.octets ≤ 70000) (sym e) (let n = carried_length in omega (arith, n))
short f (inr i) = elim i [ ]

is_emitted : Scene users both run l11
unfolding opens expected
is_emitted =
    goes-on users both both emits (claims ∷ r11) l11 l11 is_claimed (record {
      there = refl;
      living = λ s less. others-change-none settings s emits (claims ∷ r11)
          (subst (λ w. s < length w) (sym is_claimed.there) less) refl ∙ is_claimed.living s less;
      plain = λ t octets e. absurd (none-some e);
      short = new-short (claims ∷ r11) emits (frame ∷ []) refl short is_claimed.short;
      in_order = (tt, ap (λ o. is_some o) waits);
      shows = ap (option_and_then (emit_facts users (claims ∷ r11))) waits;
      few = refl;
      excused = λ ahead. refl;
      honest = tt;
    })

-- ---- the run meets the premises

legal : IsLegal settings users run
legal = record { stepped = is_emitted.stepped; excused = is_emitted.excused none_ahead }

unforged : IsUnforged settings run
unforged = is_emitted.unforged

fresh : IsFresh run
unfolding births drawn_saks
fresh = record {
  mis = ((λ same. let octet : 2 ≡ 1 = ap (λ m. slice_index m.0 11) same in omega (arith, octet), tt), (tt, tt));
  saks = (tt, tt);
}

-- it has one key
one_sak : (i : Install) → Contains (installs run) i → i.sak ≡ sak 1
unfolding installs
one_sak i there = go (contains-in (installs run) i there)
  where
    go : In i (installs run) → i.sak ≡ sak 1
    go (inl e) = ap (λ (w : Install). w.sak) e
    go (inr (inl e)) = ap (λ (w : Install). w.sak) e
    go (inr (inr never)) = elim never [ ]

sealed_once : IsSealedOnce run
sealed_once f tag i j there sec fields hi hj opens_i opens_j = one_sak i hi ∙ sym (one_sak j hj)

-- and a protected frame
frame_there : Contains (air run) frame
unfolding air
frame_there = in-contains (air run) frame (inl refl)

-- ---- what the definitions say

nothing_captured : AreCaptured [] []
nothing_captured = tt

a_frame_is_missing : AreCaptured (frame ∷ []) [] → ⊥
a_frame_is_missing are = are

a_cut_frame : IsRightAndNew findings.SecCut → ⊥
a_cut_frame is = is
