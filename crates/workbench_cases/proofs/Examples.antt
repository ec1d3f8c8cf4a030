-- the definitions on worked values, by computing
use Rattle.std.proofs.Common.{◌≡◌, [], ◌∷◌, get_or, refl}
use Rattle.workbench_cases.specs.declared.ciphers.named.Frame.TheVariants.{Octets64, Octets512, Octets1500}
use Rattle.workbench_cases.specs.Work.{stepped, key, long_key, changed, iv_after}
use Rattle.workbench_cases.specs.Results.{text_length}

three : stepped 7 3 ≡ 0 ∷ 7 ∷ 14 ∷ []
unfolding stepped
three = refl

-- 7 * 36 is 252, and 7 * 37 is 259
wraps : get_or (stepped 7 38) 37 0 ≡ 3
unfolding stepped
wraps = refl

key_octets : key ≡ 0 ∷ 1 ∷ 2 ∷ 3 ∷ 4 ∷ 5 ∷ 6 ∷ 7 ∷ 8 ∷ 9 ∷ 10 ∷ 11 ∷ 12 ∷ 13 ∷ 14 ∷ 15 ∷ []
unfolding stepped
key_octets = refl

-- 0x51 and 0xff differ in 0xae
first_octet : changed (0x51 ∷ 2 ∷ 3 ∷ []) (0xff ∷ 9 ∷ 9 ∷ []) ≡ 0xae ∷ 2 ∷ 3 ∷ []
first_octet = refl

-- the first tag is under an IV that ends in 2, and the 255th under one that ends in 0
first_iv : iv_after 1 ≡ 2 ∷ 0 ∷ 0 ∷ 0 ∷ 0 ∷ 10 ∷ 0 ∷ 1 ∷ 0 ∷ 0 ∷ 0 ∷ 2 ∷ []
first_iv = refl

iv_after_255 : iv_after 255 ≡ 2 ∷ 0 ∷ 0 ∷ 0 ∷ 0 ∷ 10 ∷ 0 ∷ 1 ∷ 0 ∷ 0 ∷ 0 ∷ 0 ∷ []
iv_after_255 = refl

-- the texts of the three frames
text_64 : text_length Octets64 ≡ 52
text_64 = refl

text_512 : text_length Octets512 ≡ 500
text_512 = refl

text_1500 : text_length Octets1500 ≡ 1488
text_1500 = refl

last_of_long_key : get_or long_key 31 0 ≡ 31
unfolding stepped
last_of_long_key = refl
