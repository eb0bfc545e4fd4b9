-- What calls one after the other appended.
use Rattle.std.proofs.Common.{◌≡◌, List, ◌++◌, ap, ◌∙◌, append_assoc}

pub two : {A : Type 0} (s a b x y : List A) → x ≡ s ++ a → y ≡ x ++ b → y ≡ s ++ (a ++ b)
two s a b x y e f = f ∙ ap (λ z. z ++ b) e ∙ append_assoc s a b

pub three : {A : Type 0} (s a b c x y z : List A) → x ≡ s ++ a → y ≡ x ++ b → z ≡ y ++ c → z ≡ s ++ (a ++ b ++ c)
three s a b c x y z e f g = two s (a ++ b) c y z (two s a b x y e f) g

pub four : {A : Type 0} (s a b c d x y z w : List A) → x ≡ s ++ a → y ≡ x ++ b → z ≡ y ++ c → w ≡ z ++ d → w ≡ s ++ (a ++ b ++ c ++ d)
four s a b c d x y z w e f g h = two s (a ++ b ++ c) d z w (three s a b c x y z e f g) h

pub five : {A : Type 0} (s a b c d e x y z w v : List A) → x ≡ s ++ a → y ≡ x ++ b → z ≡ y ++ c → w ≡ z ++ d → v ≡ w ++ e → v ≡ s ++ (a ++ b ++ c ++ d ++ e)
five s a b c d e x y z w v i j k l m = two s (a ++ b ++ c ++ d) e w v (four s a b c d x y z w i j k l) m
