-- What is unwrapped of a packet is one alone.
use Rattle.std.proofs.Common.{◌≡◌, ℕ, ◌-◌, ◌≤◌, List, Option, Some, None, Result, Ok, Err, refl, sym, ap, ◌∙◌, subst, arith}
use Rattle.std.specs.Prelude.{All, slice_get}
use Rattle.std.proofs.lemmas.List.Elements.{All-get_or}
use Rattle.std.proofs.lemmas.Option.{get_or_from_slice_get, slice_get_within}
use Rattle.aes_block.specs.Aes.{IsKey, IsOctets}
use Rattle.aes_block.specs.declared.secret.Secret.{Secret}
use Rattle.aes_block.specs.declared.secret.Secret.TheVariants.{S128, S256}
use Rattle.key_wrap.specs.Wrap.{wrapped}
use Rattle.lan_base.specs.declared.address.Mi.{Mi}
use Rattle.mkpdu_codec.specs.declared.given.Given.{Given}
use Rattle.mkpdu_codec.specs.declared.wrapped_key.WrappedKey.{WrappedKey}
use Rattle.mkpdu_codec.specs.declared.wrapped_key.WrappedKey.TheVariants.{Aes128, Aes256, Xpn128, Xpn256, Other}
use Rattle.packet_verdicts.specs.declared.given.Gift.{Gift}
use Rattle.packet_verdicts.specs.declared.given.NoSak.{NoSak}
use Rattle.packet_verdicts.specs.declared.given.NoSak.TheVariants.{OtherSuite, WrongWrap}
use Rattle.packet_verdicts.specs.declared.kind.Kind.{Kind}
use Rattle.packet_verdicts.specs.declared.kind.Kind.TheVariants as kinds
use Rattle.packet_verdicts.specs.declared.kind.Mka.TheVariants as mkas
use Rattle.packet_verdicts.specs.Given.{GivesBy, IsGift, IsSak}
use Rattle.packet_verdicts.specs.Groups.{GroupKeys}
use Rattle.capture_audit.specs.Before.{UnwrapsBy}

-- under one key encrypting key no two keys of one length have one wrap, as `law_one_key_for_one_wrap` says
abbrev pub IsOneKeyForOneWrap : Type 0
IsOneKeyForOneWrap = (kek a b : List ℕ) (n : ℕ) → IsKey kek → 8 ≤ n → IsOctets n a → IsOctets n b
    → wrapped kek a ≡ wrapped kek b → a ≡ b

saks-agree : IsOneKeyForOneWrap → (kek : List ℕ) (wrap : WrappedKey) (a b : Result Secret NoSak) → IsKey kek
    → IsSak kek wrap a → IsSak kek wrap b → a ≡ b
saks-agree law kek (Aes128 octets) (Ok (S128 x)) (Ok (S128 y)) key is other =
    ap (λ (k : List ℕ). Ok (S128 k)) (law kek x y 16 key (omega arith) is.0 other.0 (is.1 ∙ sym other.1))
saks-agree law kek (Aes128 octets) (Ok (S128 x)) (Err WrongWrap) key is other =
    absurd (other x is.0 is.1)
saks-agree law kek (Aes128 octets) (Err WrongWrap) (Ok (S128 y)) key is other =
    absurd (is y other.0 other.1)
saks-agree law kek (Aes128 octets) (Err WrongWrap) (Err WrongWrap) key is other = refl
saks-agree law kek (Aes256 octets) (Ok (S256 x)) (Ok (S256 y)) key is other =
    ap (λ (k : List ℕ). Ok (S256 k)) (law kek x y 32 key (omega arith) is.0 other.0 (is.1 ∙ sym other.1))
saks-agree law kek (Aes256 octets) (Ok (S256 x)) (Err WrongWrap) key is other =
    absurd (other x is.0 is.1)
saks-agree law kek (Aes256 octets) (Err WrongWrap) (Ok (S256 y)) key is other =
    absurd (is y other.0 other.1)
saks-agree law kek (Aes256 octets) (Err WrongWrap) (Err WrongWrap) key is other = refl
saks-agree law kek (Xpn256 octets) (Err OtherSuite) (Err OtherSuite) key is other = refl
saks-agree law kek (Xpn128 octets) (Err OtherSuite) (Err OtherSuite) key is other = refl
saks-agree law kek Other (Err OtherSuite) (Err OtherSuite) key is other = refl
saks-agree law kek (Aes128 octets) (Ok (S256 x)) b key is other = absurd is
saks-agree law kek (Aes128 octets) (Err OtherSuite) b key is other = absurd is
saks-agree law kek (Aes128 octets) (Ok (S128 x)) (Ok (S256 y)) key is other = absurd other
saks-agree law kek (Aes128 octets) (Ok (S128 x)) (Err OtherSuite) key is other = absurd other
saks-agree law kek (Aes128 octets) (Err WrongWrap) (Ok (S256 y)) key is other = absurd other
saks-agree law kek (Aes128 octets) (Err WrongWrap) (Err OtherSuite) key is other = absurd other
saks-agree law kek (Aes256 octets) (Ok (S128 x)) b key is other = absurd is
saks-agree law kek (Aes256 octets) (Err OtherSuite) b key is other = absurd is
saks-agree law kek (Aes256 octets) (Ok (S256 x)) (Ok (S128 y)) key is other = absurd other
saks-agree law kek (Aes256 octets) (Ok (S256 x)) (Err OtherSuite) key is other = absurd other
saks-agree law kek (Aes256 octets) (Err WrongWrap) (Ok (S128 y)) key is other = absurd other
saks-agree law kek (Aes256 octets) (Err WrongWrap) (Err OtherSuite) key is other = absurd other
saks-agree law kek (Xpn128 octets) (Ok x) b key is other = absurd is
saks-agree law kek (Xpn128 octets) (Err WrongWrap) b key is other = absurd is
saks-agree law kek (Xpn128 octets) (Err OtherSuite) (Ok y) key is other = absurd other
saks-agree law kek (Xpn128 octets) (Err OtherSuite) (Err WrongWrap) key is other = absurd other
saks-agree law kek (Xpn256 octets) (Ok x) b key is other = absurd is
saks-agree law kek (Xpn256 octets) (Err WrongWrap) b key is other = absurd is
saks-agree law kek (Xpn256 octets) (Err OtherSuite) (Ok y) key is other = absurd other
saks-agree law kek (Xpn256 octets) (Err OtherSuite) (Err WrongWrap) key is other = absurd other
saks-agree law kek Other (Ok x) b key is other = absurd is
saks-agree law kek Other (Err WrongWrap) b key is other = absurd is
saks-agree law kek Other (Err OtherSuite) (Ok y) key is other = absurd other
saks-agree law kek Other (Err OtherSuite) (Err WrongWrap) key is other = absurd other

gift-agrees : IsOneKeyForOneWrap → (kek : List ℕ) (mi : Mi) (given : Given) (a b : Gift) → IsKey kek
    → IsGift kek mi given a → IsGift kek mi given b → a ≡ b
gift-agrees law kek mi given a b key is other =
    let id = is.named ∙ sym other.named in
    let an = is.under ∙ sym other.under in
    let offset = is.protects ∙ sym other.protects in
    let sak = saks-agree law kek given.key a.sak b.sak key is.hides other.hides in
    λ i. record { id = id i; an = an i; offset = offset i; sak = sak i }

gives-agree : IsOneKeyForOneWrap → (kek : List ℕ) (mi : Mi) (given : Option Given) (a b : Option Gift) → IsKey kek
    → GivesBy kek mi given a → GivesBy kek mi given b → a ≡ b
gives-agree law kek mi (Some given) (Some a) (Some b) key is other =
    ap (λ (g : Gift). Some g) (gift-agrees law kek mi given a b key is other)
gives-agree law kek mi (Some given) (Some a) None key is other = absurd other
gives-agree law kek mi (Some given) None b key is other = absurd is
gives-agree law kek mi None None None key is other = refl
gives-agree law kek mi None None (Some b) key is other = absurd other
gives-agree law kek mi None (Some a) b key is other = absurd is

all-at : (P : GroupKeys → Type 0) (groups : List GroupKeys) (i : ℕ) (g : GroupKeys) → slice_get groups i ≡ Some g
    → All P groups → P g
all-at P groups i g is all =
    subst P (get_or_from_slice_get groups i g g is)
    (All-get_or P groups i g (slice_get_within groups i g is) all)

-- of a packet one gift alone is unwrapped
pub gifts-agree : IsOneKeyForOneWrap → (groups : List GroupKeys) (a b : Option Gift) (kind : Kind)
    → All (λ g. IsKey g.kek) groups → UnwrapsBy groups a kind → UnwrapsBy groups b kind → a ≡ b
gifts-agree law groups a b (kinds.Mka (mkas.Right group s)) keyed (keys, at, is) (others, also, other) =
    let same : others ≡ keys = cc (sym also ∙ at) in
    gives-agree law keys.kek s.announcement.mi s.announcement.given a b
    (all-at (λ (g : GroupKeys). IsKey g.kek) groups (group - 1) keys at keyed) is
    (subst (λ (k : GroupKeys). GivesBy k.kek s.announcement.mi s.announcement.given b) same other)
gifts-agree law groups a b (kinds.Mka mkas.Cut) keyed is other = is ∙ sym other
gifts-agree law groups a b (kinds.Mka (mkas.Dropped why)) keyed is other = is ∙ sym other
gifts-agree law groups a b (kinds.Mka (mkas.Unknown ckn sci gives)) keyed is other = is ∙ sym other
gifts-agree law groups a b (kinds.Mka (mkas.Wrong gives)) keyed is other = is ∙ sym other
gifts-agree law groups a b (kinds.Sec sec) keyed is other = is ∙ sym other
gifts-agree law groups a b kinds.Foreign keyed is other = is ∙ sym other
gifts-agree law groups a b kinds.Other keyed is other = is ∙ sym other
