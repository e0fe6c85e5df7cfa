-- The references of an answerer, by name.
use Rattle.std.proofs.Common.{◌≡◌, ℕ, [], ◌∷◌}

pub first_name : {a b c d e u v x y z : ℕ} → (a ∷ b ∷ c ∷ d ∷ e ∷ []) ≡ (u ∷ v ∷ x ∷ y ∷ z ∷ []) → a ≡ u
first_name same = cc

pub second_name : {a b c d e u v x y z : ℕ} → (a ∷ b ∷ c ∷ d ∷ e ∷ []) ≡ (u ∷ v ∷ x ∷ y ∷ z ∷ []) → b ≡ v
second_name same = cc

pub third_name : {a b c d e u v x y z : ℕ} → (a ∷ b ∷ c ∷ d ∷ e ∷ []) ≡ (u ∷ v ∷ x ∷ y ∷ z ∷ []) → c ≡ x
third_name same = cc

pub fourth_name : {a b c d e u v x y z : ℕ} → (a ∷ b ∷ c ∷ d ∷ e ∷ []) ≡ (u ∷ v ∷ x ∷ y ∷ z ∷ []) → d ≡ y
fourth_name same = cc

pub fifth_name : {a b c d e u v x y z : ℕ} → (a ∷ b ∷ c ∷ d ∷ e ∷ []) ≡ (u ∷ v ∷ x ∷ y ∷ z ∷ []) → e ≡ z
fifth_name same = cc
