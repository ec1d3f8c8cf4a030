-- Announcements that a station can read, decided.
use Rattle.std.proofs.Common.{◌≡◌, ◌^◌, refl, sym, ap, ◌∙◌, ℕ, Bool}
use Rattle.std.proofs.Common.{true}
use Rattle.std.proofs.Common.{Option, Some, None}
use Rattle.std.specs.Prelude.{◌&&◌, nat_lt, IfSome, option_map}
use Rattle.std.proofs.lemmas.Bool.{and_parts, ltb-true}
use Rattle.aes_block.specs.declared.secret.Secret.TheVariants.{S128}
use Rattle.gcm_frames.specs.Tags.{is_sec}
use Rattle.lan_base.specs.declared.association_number.AssociationNumber.TheVariants.{An0}
use Rattle.mkpdu_codec.specs.declared.announcement.Announcement.{Announcement}
use Rattle.mkpdu_codec.specs.declared.given.Given.{Given}
use Rattle.mkpdu_codec.specs.Sets.{IsGiven}
use Rattle.mkpdu_codec.specs.Written.{IsWritableKey}
use Rattle.sak_exchange.specs.Unwrapping.{given_sak}
use Rattle.group_safety.proofs.once.Currents.{some-same}
use Rattle.group_safety.proofs.once.Living.{group_kek}
use Rattle.group_safety.proofs.once.ClaimKept.{protected-is_sec}
use Rattle.group_safety.proofs.example.Scene.{IsSayable}
use Rattle.group_safety.proofs.example.Sayable.{is_good, sayable}
use Rattle.group_safety.proofs.example.Good.{length-wrapped_sak}
use Rattle.group_safety.proofs.example.Steps.{unwrapped-wrapped_sak}
use Rattle.group_safety.specs.worked.Group.{settings, bob, octets_of_sak, draw_of, user}
use Rattle.group_safety.specs.worked.Deeds.{Gift, given_of, whole, carried}
use Rattle.group_safety.specs.worked.Lives.{hidden_in}

abbrev pub is_gift : Option Gift → Bool
is_gift None = true
is_gift (Some g) = nat_lt g.number (2 ^ 32) && nat_lt (draw_of g.number) 256

gifted : (g : Option Gift) → is_gift g ≡ true
    → IfSome (given_of g) (λ x. IsWritableKey x.key) × IfSome (given_of g) IsGiven
gifted None e = (tt, tt)
gifted (Some g) e =
    let y = and_parts (nat_lt g.number (2 ^ 32)) _ e in (
      tt,
      record {
        number = ltb-true g.number (2 ^ 32) y.0;
        key = length-wrapped_sak (draw_of g.number) y.1;
      },
    )

pub good-is : (a : Announcement) (g : Option Gift) → is_good a ≡ true → is_gift g ≡ true
    → IsSayable (whole a g)
good-is a g e f = sayable (whole a g) e (gifted g f)

pub hidden-is : (g : Option Gift) → is_gift g ≡ true → (x : Given) → given_of g ≡ Some x
    → given_sak (group_kek settings) x.key ≡ hidden_in g
hidden-is None e x same = absurd (cc (same))
hidden-is (Some g) e x same =
    let q = and_parts (nat_lt g.number (2 ^ 32)) _ e in
    ap (λ (w : Given). given_sak (group_kek settings) w.key) (sym (some-same same))
    ∙ ap (option_map S128) (unwrapped-wrapped_sak (draw_of g.number) q.1)

pub carried-is-sec : (pn : ℕ) → is_sec (carried pn) ≡ true
carried-is-sec pn = protected-is_sec (octets_of_sak 3) bob.sci An0 pn true user refl refl
