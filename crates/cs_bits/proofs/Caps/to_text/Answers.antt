use Rattle.std.proofs.Common.{◌≡◌, ◌<◌, ◌≤◌, ◌+◌, ◌++◌, ℕ, List, [], ◌∷◌, length, take, sym, ap, ◌∙◌, arith, codes}
use Rattle.cs_bits.specs.declared.Caps.{Caps}
use Rattle.cs_bits.specs.Bits.{letters_of, group_text, spelled, caps_text, pin_letters, auth_letters, link_letters, xattr_letters, file_letters}
use Rattle.cs_bits.proofs.Writing.{whole_text, whole_length, whole_rest, take_dash, or_dash_some, or_dash_none}
use Rattle.cs_bits.proofs.Caps.to_text.Goals as goal

-- the parts, one behind the other, are the whole
spelled_text : (c : Caps) (before o1 o2 o3 o4 o5 : List ℕ) (n1 n2 n3 n4 n5 : ℕ) → take n1 o1 ≡ take 0 before ++ letters_of c pin_letters → take n2 o2 ≡ take n1 o1 ++ group_text c (codes "A") auth_letters → take n3 o3 ≡ take n2 o2 ++ group_text c (codes "L") link_letters → take n4 o4 ≡ take n3 o3 ++ group_text c (codes "X") xattr_letters → take n5 o5 ≡ take n4 o4 ++ group_text c (codes "F") file_letters → take n5 o5 ≡ spelled c
spelled_text c before o1 o2 o3 o4 o5 n1 n2 n3 n4 n5 e1 e2 e3 e4 e5 = whole_text before o1 o2 o3 o4 o5 n1 n2 n3 n4 n5 _ _ _ _ _ e1 e2 e3 e4 e5

spelled_length : (c : Caps) (n1 n2 n3 n4 n5 : ℕ) → n1 ≡ 0 + length (letters_of c pin_letters) → n2 ≡ n1 + length (group_text c (codes "A") auth_letters) → n3 ≡ n2 + length (group_text c (codes "L") link_letters) → n4 ≡ n3 + length (group_text c (codes "X") xattr_letters) → n5 ≡ n4 + length (group_text c (codes "F") file_letters) → n5 ≡ length (spelled c)
spelled_length c n1 n2 n3 n4 n5 e1 e2 e3 e4 e5 = whole_length n1 n2 n3 n4 n5 _ _ _ _ _ e1 e2 e3 e4 e5

text_some : (c : Caps) (n : ℕ) → 0 < n → n ≡ length (spelled c) → caps_text c ≡ spelled c
unfolding caps_text
text_some c n some len = or_dash_some n (spelled c) some len

text_none : (c : Caps) (n : ℕ) → n ≤ 0 → n ≡ length (spelled c) → caps_text c ≡ 45 ∷ []
unfolding caps_text
text_none c n none len = or_dash_none n (spelled c) none len

pub returns-then-end-gt0-clause-text : goal.returns-then-end-gt0-clause-text
returns-then-end-gt0-clause-text c =
    let len : c.put_group-end.result ≡ length (spelled c.args.self.now) =
    spelled_length c.args.self.now c.put_letters-pin.result c.put_group-auth.result c.put_group-link.result c.put_group-xattr.result c.put_group-end.result c.put_letters-pin.ensures.len c.put_group-auth.ensures.len c.put_group-link.ensures.len c.put_group-xattr.ensures.len c.put_group-end.ensures.len
    in spelled_text c.args.self.now c.args.out.now c.put_letters-pin.new.out c.put_group-auth.new.out c.put_group-link.new.out c.put_group-xattr.new.out c.put_group-end.new.out c.put_letters-pin.result c.put_group-auth.result c.put_group-link.result c.put_group-xattr.result c.put_group-end.result c.put_letters-pin.ensures.text c.put_group-auth.ensures.text c.put_group-link.ensures.text c.put_group-xattr.ensures.text c.put_group-end.ensures.text
    ∙ sym (text_some c.args.self.now c.put_group-end.result c.if-end-gt0.true len)

pub returns-then-end-gt0-clause-len : goal.returns-then-end-gt0-clause-len
returns-then-end-gt0-clause-len c =
    let len : c.put_group-end.result ≡ length (spelled c.args.self.now) =
    spelled_length c.args.self.now c.put_letters-pin.result c.put_group-auth.result c.put_group-link.result c.put_group-xattr.result c.put_group-end.result c.put_letters-pin.ensures.len c.put_group-auth.ensures.len c.put_group-link.ensures.len c.put_group-xattr.ensures.len c.put_group-end.ensures.len
    in len ∙ ap length (sym (text_some c.args.self.now c.put_group-end.result c.if-end-gt0.true len))

pub returns-then-end-gt0-clause-rest : goal.returns-then-end-gt0-clause-rest
returns-then-end-gt0-clause-rest c =
    whole_rest c.args.out.now c.put_letters-pin.new.out c.put_group-auth.new.out c.put_group-link.new.out c.put_group-xattr.new.out c.put_group-end.new.out c.put_letters-pin.result c.put_group-auth.result c.put_group-link.result c.put_group-xattr.result c.put_group-end.result
    (omega arith)
    (omega arith)
    (omega arith)
    (omega arith)
    c.put_letters-pin.ensures.rest
    c.put_group-auth.ensures.rest
    c.put_group-link.ensures.rest
    c.put_group-xattr.ensures.rest
    c.put_group-end.ensures.rest

pub returns-clause-text : goal.returns-clause-text
returns-clause-text c =
    let len : c.put_group-end.result ≡ length (spelled c.args.self.now) =
    spelled_length c.args.self.now c.put_letters-pin.result c.put_group-auth.result c.put_group-link.result c.put_group-xattr.result c.put_group-end.result c.put_letters-pin.ensures.len c.put_group-auth.ensures.len c.put_group-link.ensures.len c.put_group-xattr.ensures.len c.put_group-end.ensures.len
    in take_dash c.put_group-end.new.out (omega arith) ∙ sym (text_none c.args.self.now c.put_group-end.result c.if-end-gt0.false len)

pub returns-clause-len : goal.returns-clause-len
returns-clause-len c =
    let len : c.put_group-end.result ≡ length (spelled c.args.self.now) =
    spelled_length c.args.self.now c.put_letters-pin.result c.put_group-auth.result c.put_group-link.result c.put_group-xattr.result c.put_group-end.result c.put_letters-pin.ensures.len c.put_group-auth.ensures.len c.put_group-link.ensures.len c.put_group-xattr.ensures.len c.put_group-end.ensures.len
    in ap length (sym (text_none c.args.self.now c.put_group-end.result c.if-end-gt0.false len))
