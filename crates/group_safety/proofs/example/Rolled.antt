-- Each event of the rollover, computed.
use Rattle.std.proofs.Common.{◌≡◌, ◌<◌, ◌≤◌, ℕ, refl, sym, ap, ◌∙◌, subst, inl, inr, length, true}
use Rattle.std.proofs.Common.{List, [], ◌∷◌, cond, Some, is_some, arith, length-append}
use Rattle.std.specs.Prelude.{option_map, option_and_then, slice_get}
use Rattle.lan_base.specs.declared.association_number.AssociationNumber.TheVariants.{An0, An1}
use Rattle.gcm_frames.specs.Tags.{is_sec}
use Rattle.gcm_frames.specs.Protected.{iv}
use Rattle.gcm_frames.proofs.Public.{Encrypts, encrypts, length-gcm_text, length-gcm_tag}
use Rattle.rx_slots.specs.Numbers.{answer}
use Rattle.sak_exchange.specs.Held.{transmitting}
use Rattle.mka_station.specs.declared.verdict.Verdict.TheVariants.{Vouched}
use Rattle.mka_station.specs.Hearing.{frame_turn}
use Rattle.lan_core.specs.declared.fact.Fact.TheVariants as facts
use Rattle.lan_core.specs.Ledgers.{Frame}
use Rattle.lan_core.specs.Lives.{Life, life, lived, lived_hearing, receiving, keys_in}
use Rattle.lan_core.specs.Lives.{transmitting_at}
use Rattle.lan_core.specs.Claims.{waiting, waiting_under, claimed}
use Rattle.lan_core.specs.Expected.{expected, emit_facts, reached_facts, reaction_facts}
use Rattle.lan_core.specs.Legal.{IsStepped}
use Rattle.lan_core.proofs.Public.{others-change-none}
use Rattle.group_safety.proofs.Members.{In}
use Rattle.group_safety.proofs.once.Ciphers.{encrypts as encrypts_block}
use Rattle.group_safety.proofs.once.ClaimKept.{protected-is_sec}
use Rattle.group_safety.proofs.once.Currents.{none-some}
use Rattle.group_safety.proofs.once.Nexts.{life-next}
use Rattle.group_safety.specs.worked.Group.{settings, alice, bob, user, id, sak, octets_of_sak}
use Rattle.group_safety.proofs.example.Scene.{set_up, IsSayable, Lives, Scene, goes-on}
use Rattle.group_safety.proofs.example.Scene.{few-within}
use Rattle.group_safety.proofs.example.Moves.{Hears, sends, sends-short, none-short}
use Rattle.group_safety.proofs.example.Moves.{tick-moves, hear-moves, claim-moves, new-short}
use Rattle.group_safety.proofs.example.Run.{users, a3}
use Rattle.group_safety.proofs.example.Run.{first_key, r11}
use Rattle.group_safety.proofs.example.Sayable.{sayable}
use Rattle.group_safety.proofs.example.Good.{length-wrapped_sak, sci_is, sak_is, good_a3}
use Rattle.group_safety.proofs.example.Steps.{opens, goes, both, l11, unwrapped-wrapped_sak, drawn}
use Rattle.group_safety.proofs.example.Steps.{a-user}
use Rattle.group_safety.proofs.example.Rolling as scene
use Rattle.group_safety.proofs.example.Rolling.{many, more, carried}

-- ---- the announcements

pub good_d4 : IsSayable scene.d4
good_d4 = sayable scene.d4 refl (tt, record { number = omega arith; key = length-wrapped_sak 2 refl })

pub good_e3 : IsSayable scene.e3
good_e3 = sayable scene.e3 refl (tt, tt)

pub good_e4 : IsSayable scene.e4
good_e4 = sayable scene.e4 refl (tt, tt)

pub good_d5 : IsSayable scene.d5
good_d5 = sayable scene.d5 refl (tt, tt)

pub good_e5 : IsSayable scene.e5
good_e5 = sayable scene.e5 refl (tt, tt)

-- ---- the lives

abbrev pub l12 : Lives
l12 = goes 1 scene.bob5 l11

abbrev pub l13 : Lives
l13 = goes 0 scene.alice6 l12

abbrev pub l14 : Lives
l14 = goes 1 scene.bob6 l13

abbrev pub l15 : Lives
l15 = goes 1 scene.bob7 l14

abbrev pub l16 : Lives
l16 = goes 0 scene.alice7 l15

abbrev pub l17 : Lives
l17 = goes 0 scene.alice8 l16

abbrev pub l18 : Lives
l18 = goes 1 scene.bob8 l17

abbrev pub l19 : Lives
l19 = goes 0 scene.alice9 l18

abbrev pub l20 : Lives
l20 = goes 0 scene.alice10 l19

abbrev pub l21 : Lives
l21 = goes 1 scene.bob9 l20

abbrev pub l24 : Lives
l24 = goes 1 scene.bob10 l21

abbrev pub l25 : Lives
l25 = goes 0 scene.alice11 l24

abbrev pub l26 : Lives
l26 = goes 1 scene.bob11 l25

-- ---- the events

pub s12 : Scene users both r11 l11 → Scene users both scene.r12 l12
unfolding opens
s12 v =
    hear-moves users both r11 l11 1 5 _ a3 scene.bob5 alice _ v
    (record { shows = refl; past = refl }) good_a3 (omega arith) (omega arith, omega arith) refl
    refl bob refl refl refl refl (λ ahead. refl)

pub s13 : Scene users both scene.r12 l12 → Scene users both scene.r13 l13
unfolding opens
s13 v =
    tick-moves users both scene.r12 l12 0 many _ scene.alice6 (sends 6 0 alice scene.d4) v
    (record { shows = refl; past = refl }) (omega arith) (omega arith, omega arith)
    (omega arith, omega arith) (drawn 2 refl) refl
    (sends-short 6 0 alice scene.d4 good_d4) refl refl (λ ahead. refl)

pub s14 : Scene users both scene.r13 l13 → Scene users both scene.r14 l14
unfolding opens
s14 v =
    tick-moves users both scene.r13 l13 1 many _ scene.bob6 (sends 7 1 bob scene.e3) v
    (record { shows = refl; past = refl }) (omega arith) (omega arith, omega arith)
    (omega arith, omega arith) tt refl (sends-short 7 1 bob scene.e3 good_e3) refl refl
    (λ ahead. refl)

takes : Hears scene.r14 1 6
    (facts.HeardMka 6 1 Vouched ∷ facts.Installed 1 (id 2) An1 2 (sak 2) ∷ [])
    (l14 1) scene.d4 scene.bob7
unfolding opens
takes = record {
  shows = rw (unwrapped-wrapped_sak 2 refl) refl;
  past = rw (unwrapped-wrapped_sak 2 refl) refl;
}

pub s15 : Scene users both scene.r14 l14 → Scene users both scene.r15 l15
unfolding opens
s15 v =
    hear-moves users both scene.r14 l14 1 6 _ scene.d4 scene.bob7 alice _ v
    takes good_d4 (omega arith) (omega arith, omega arith) refl
    refl bob refl refl refl refl (λ ahead. refl)

pub s16 : Scene users both scene.r15 l15 → Scene users both scene.r16 l16
unfolding opens
s16 v =
    hear-moves users both scene.r15 l15 0 7 _ scene.e3 scene.alice7 bob _ v
    (record { shows = refl; past = refl }) good_e3 (omega arith) (omega arith, omega arith) refl
    refl alice refl refl refl refl (λ ahead. refl)

pub s17 : Scene users both scene.r16 l16 → Scene users both scene.r17 l17
unfolding opens
s17 v =
    tick-moves users both scene.r16 l16 0 many _ scene.alice8 [] v
    (record { shows = refl; past = refl }) (omega arith) (omega arith, omega arith)
    (omega arith, omega arith) tt refl none-short refl refl (λ ahead. refl)

pub s18 : Scene users both scene.r17 l17 → Scene users both scene.r18 l18
unfolding opens
s18 v =
    tick-moves users both scene.r17 l17 1 many _ scene.bob8 (sends 8 1 bob scene.e4) v
    (record { shows = refl; past = refl }) (omega arith) (omega arith, omega arith)
    (omega arith, omega arith) tt refl (sends-short 8 1 bob scene.e4 good_e4) refl refl
    (λ ahead. refl)

pub s19 : Scene users both scene.r18 l18 → Scene users both scene.r19 l19
unfolding opens
s19 v =
    hear-moves users both scene.r18 l18 0 8 _ scene.e4 scene.alice9 bob _ v
    (record { shows = refl; past = refl }) good_e4 (omega arith) (omega arith, omega arith) refl
    refl alice refl refl refl refl (λ ahead. refl)

pub s20 : Scene users both scene.r19 l19 → Scene users both scene.r20 l20
unfolding opens
s20 v =
    tick-moves users both scene.r19 l19 0 many _ scene.alice10 (sends 9 0 alice scene.d5) v
    (record { shows = refl; past = refl }) (omega arith) (omega arith, omega arith)
    (omega arith, omega arith) tt refl (sends-short 9 0 alice scene.d5 good_d5) refl refl
    (λ ahead. refl)

pub s21 : Scene users both scene.r20 l20 → Scene users both scene.r21 l21
unfolding opens
s21 v =
    tick-moves users both scene.r20 l20 1 many _ scene.bob9 [] v
    (record { shows = refl; past = refl }) (omega arith) (omega arith, omega arith)
    (omega arith, omega arith) tt refl none-short refl refl (λ ahead. refl)

pub s22 : Scene users both scene.r21 l21 → Scene users both scene.r22 l21
unfolding opens
s22 v =
    claim-moves users both scene.r21 l21 1 1 many first_key _ v refl (omega arith)
    (omega arith, omega arith, omega arith)
    refl refl (omega arith) (omega arith) a-user refl refl refl (λ ahead. refl)

-- ---- the frame of the claim

works : Encrypts (octets_of_sak 1) (iv bob.sci many)
works = encrypts (octets_of_sak 1) bob.sci many encrypts_block
    (record { count = inl refl; octets = (sak_is 1 refl).1 }) (sci_is 11 refl)

data_length : length carried ≡ 47
data_length =
    let text = λ (t : List ℕ). length-gcm_text (octets_of_sak 1) (iv bob.sci many) t works in
    let tag = λ (h t : List ℕ). length-gcm_tag (octets_of_sak 1) (iv bob.sci many) h t works in
    simp (length-append, text, tag) (omega arith)

data_is_sec : is_sec carried ≡ true
data_is_sec = protected-is_sec (octets_of_sak 1) bob.sci An0 many true user refl refl

pub transmits : Scene users both scene.r21 l21
    → transmitting_at settings 1 scene.r21 ≡ Some first_key
unfolding opens
transmits v =
    ap (option_and_then (λ (w : Life). transmitting (keys_in w))) (v.living 1 (omega arith))

waits : Scene users both scene.r21 l21
    → waiting settings scene.r22
    ≡ Some (record { station = 1; key = first_key; pn = many; user = 1 })
unfolding opens claimed
waits v = ap (λ o. slice_get (waiting_under 1 1 many o) 0) (transmits v)

emit_short : (f : Frame)
    → In f (record { number = 10; station = 1; sec = true; octets = carried } ∷ [])
    → length f.octets ≤ 70000
emit_short f (inl e) =
    subst (λ (w : Frame). length w.octets ≤ 70000) (sym e) (let n = data_length in omega (arith, n))
emit_short f (inr i) = elim i [ ]

pub s23 : Scene users both scene.r21 l21 → Scene users both scene.r22 l21
    → Scene users both scene.r23 l21
unfolding opens expected
s23 before v =
    goes-on users both both scene.emits scene.r22 l21 l21 v (record {
      there = refl;
      living = λ s less. others-change-none settings s scene.emits scene.r22
          (subst (λ w. s < length w) (sym v.there) less) refl ∙ v.living s less;
      plain = λ t octets e. absurd (none-some e);
      short = new-short scene.r22 scene.emits
          (record { number = 10; station = 1; sec = true; octets = carried } ∷ []) refl emit_short
          v.short;
      in_order = (tt, ap (λ o. is_some o) (waits before));
      shows = ap (option_and_then (emit_facts users scene.r22)) (waits before);
      few = refl;
      excused = λ ahead. refl;
      honest = tt;
    })

-- ---- bob begins the second key, and another round comes

pub s24 : Scene users both scene.r23 l21 → Scene users both scene.r24 l24
unfolding opens
s24 v =
    hear-moves users both scene.r23 l21 1 9 _ scene.d5 scene.bob10 alice _ v
    (record { shows = refl; past = refl }) good_d5 (omega arith) (omega arith, omega arith) refl
    refl bob refl refl refl refl (λ ahead. refl)

pub s25 : Scene users both scene.r24 l24 → Scene users both scene.r25 l25
unfolding opens
s25 v =
    tick-moves users both scene.r24 l24 0 more _ scene.alice11 [] v
    (record { shows = refl; past = refl }) (omega arith) (omega arith, omega arith)
    (omega arith, omega arith) tt refl none-short refl refl (λ ahead. refl)

pub s26 : Scene users both scene.r25 l25 → Scene users both scene.r26 l26
unfolding opens
s26 v =
    tick-moves users both scene.r25 l25 1 more _ scene.bob11 (sends 11 1 bob scene.e5) v
    (record { shows = refl; past = refl }) (omega arith) (omega arith, omega arith)
    (omega arith, omega arith) tt refl (sends-short 11 1 bob scene.e5 good_e5) refl refl
    (λ ahead. refl)

-- ---- the frame reaches alice, who began that key's next

pub alice_after : Scene users both scene.r26 l26 → life settings 0 scene.run ≡ Some (l26 0)
unfolding opens
alice_after v = life-next settings 0 scene.arrives scene.r26
    ∙ ap (option_map (λ w. lived_hearing w carried)) (v.living 0 (omega arith))
    ∙ ap (λ b. Some (cond b (l26 0) (lived (l26 0)
    (frame_turn (l26 0).member carried (l26 0).past)))) data_is_sec

pub bob_after : Scene users both scene.r26 l26 → life settings 1 scene.run ≡ Some (l26 1)
bob_after v = others-change-none settings 1 scene.arrives scene.r26
    (subst (λ w. 1 < length w) (sym v.there) (omega arith)) refl ∙ v.living 1 (omega arith)

pub steps : Scene users both scene.r26 l26 → IsStepped settings users scene.run
unfolding opens expected
steps v = (
  record {
    setting = set_up;
    in_order = ((omega arith, omega arith), (omega arith, refl));
    shows = ap (λ o. option_map (reached_facts settings 0 scene.r26 10 carried) o)
        (v.living 0 (omega arith))
        ∙ ap (λ b. Some (cond b
        (facts.Arrived 10 0
        (answer (l26 0).member.setup.sci settings.window (receiving 0 scene.r26) carried) ∷ [])
        (reaction_facts 0 10 0 (frame_turn (l26 0).member carried (l26 0).past).reaction)))
        data_is_sec;
    within = few-within scene.run v.short refl;
  },
  v.stepped,
)
