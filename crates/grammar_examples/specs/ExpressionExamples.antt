-- Small expressions and the trees that they spell, or none; or something of the text is left.
use Rattle.std.specs.Prelude.{◌≡◌, refl, codes}
use Rattle.c_parser.specs.ReadExpressions.{level, within}
use Rattle.grammar_examples.specs.Shown.{shown, shown_within}

-- left grouping of one strength

example_0 : shown (codes "a - b - c") ≡ codes "((a-b)-c)"
unfolding level within
example_0 = refl

-- the strengths of the binary operators

example_1 : shown_within 9 12 (codes "a || b && c | d ^ e & f == g < h << i + j * k") ≡ codes "(a||(b&&(c|(d^(e&(f==(g<(h<<(i+(j*k))))))))))"
unfolding level within
example_1 = refl

example_2 : shown_within 9 12 (codes "a * b + c << d < e == f & g ^ h | i && j || k") ≡ codes "((((((((((a*b)+c)<<d)<e)==f)&g)^h)|i)&&j)||k)"
unfolding level within
example_2 = refl

example_3 : shown (codes "a & b == c") ≡ codes "(a&(b==c))"
unfolding level within
example_3 = refl

example_4 : shown (codes "a % b / c >> d >= e != f <= g > h") ≡ codes "(((((a%b)/c)>>d)>=e)!=((f<=g)>h))"
unfolding level within
example_4 = refl

-- the comma, and arguments without one

example_5 : shown (codes "a, b, c") ≡ codes "((a,b),c)"
unfolding level within
example_5 = refl

example_6 : shown (codes "f(a, b)") ≡ codes "f(a;b;)"
unfolding level within
example_6 = refl

example_7 : shown (codes "f((a, b))") ≡ codes "f((a,b);)"
unfolding level within
example_7 = refl

example_8 : shown (codes "f(a,)") ≡ codes "none"
unfolding level within
example_8 = refl

example_9 : shown (codes "f()") ≡ codes "f()"
unfolding level within
example_9 = refl

example_10 : shown (codes "f()()") ≡ codes "rest"
unfolding level within
example_10 = refl

-- assignments group to the right, and assign to unary expressions

example_11 : shown (codes "a = b += c") ≡ codes "(a=(b+=c))"
unfolding level within
example_11 = refl

example_12 : shown (codes "a[1] <<= b, c") ≡ codes "((a[1]<<=b),c)"
unfolding level within
example_12 = refl

example_13 : shown (codes "a + b = c") ≡ codes "rest"
unfolding level within
example_13 = refl

example_14 : shown (codes "-a = b") ≡ codes "((-a)=b)"
unfolding level within
example_14 = refl

example_15 : shown (codes "(int)a = b") ≡ codes "rest"
unfolding level within
example_15 = refl

example_16 : shown (codes "((int)a) = b") ≡ codes "((int:a)=b)"
unfolding level within
example_16 = refl

example_17 : shown (codes "a ? b : c = d") ≡ codes "rest"
unfolding level within
example_17 = refl

example_18 : shown (codes "a = b ? c : d") ≡ codes "(a=(b?c:d))"
unfolding level within
example_18 = refl

-- conditionals group to the right

example_19 : shown (codes "a ? b, c : d ? e : f") ≡ codes "(a?(b,c):(d?e:f))"
unfolding level within
example_19 = refl

example_20 : shown (codes "a ? b = c : d") ≡ codes "(a?(b=c):d)"
unfolding level within
example_20 = refl

example_21 : shown (codes "a ? b") ≡ codes "none"
unfolding level within
example_21 = refl

-- steps

example_22 : shown (codes "(x)++") ≡ codes "(x++)"
unfolding level within
example_22 = refl

example_23 : shown (codes "-x++") ≡ codes "(-(x++))"
unfolding level within
example_23 = refl

example_24 : shown (codes "x++--") ≡ codes "((x++)--)"
unfolding level within
example_24 = refl

example_25 : shown (codes "++x--") ≡ codes "(++(x--))"
unfolding level within
example_25 = refl

example_26 : shown (codes "- --x") ≡ codes "(-(--x))"
unfolding level within
example_26 = refl

example_27 : shown (codes "++-x") ≡ codes "(++(-x))"
unfolding level within
example_27 = refl

example_28 : shown (codes "++(int)x") ≡ codes "none"
unfolding level within
example_28 = refl

-- casts

example_29 : shown (codes "(unsigned char)-x") ≡ codes "(uchar:(-x))"
unfolding level within
example_29 = refl

example_30 : shown (codes "(long const unsigned)x + y") ≡ codes "((ulong:x)+y)"
unfolding level within
example_30 = refl

example_31 : shown (codes "(void)f()") ≡ codes "(void:f())"
unfolding level within
example_31 = refl

example_32 : shown (codes "(int)(int)x++") ≡ codes "(int:(int:(x++)))"
unfolding level within
example_32 = refl

example_33 : shown (codes "(const)x") ≡ codes "none"
unfolding level within
example_33 = refl

example_34 : shown (codes "(int)") ≡ codes "none"
unfolding level within
example_34 = refl

example_35 : shown (codes "(int long int)x") ≡ codes "none"
unfolding level within
example_35 = refl

-- elements, calls and parentheses

example_36 : shown (codes "a[b](c)") ≡ codes "rest"
unfolding level within
example_36 = refl

example_37 : shown (codes "a[b, c]") ≡ codes "a[(b,c)]"
unfolding level within
example_37 = refl

example_38 : shown (codes "a[b][c][d]") ≡ codes "rest"
unfolding level within
example_38 = refl

example_39 : shown (codes "((a))") ≡ codes "a"
unfolding level within
example_39 = refl

example_40 : shown (codes "()") ≡ codes "none"
unfolding level within
example_40 = refl

example_41 : shown (codes "!~+'a'") ≡ codes "(!(~(+char)))"
unfolding level within
example_41 = refl

example_42 : shown (codes "while + 1") ≡ codes "none"
unfolding level within
example_42 = refl

example_43 : shown (codes "__const") ≡ codes "none"
unfolding level within
example_43 = refl

-- limits

example_44 : shown_within 2 9 (codes "((a))") ≡ codes "a"
unfolding level within
example_44 = refl

example_45 : shown_within 1 9 (codes "((a))") ≡ codes "none"
unfolding level within
example_45 = refl

example_46 : shown_within 0 9 (codes "f()") ≡ codes "none"
unfolding level within
example_46 = refl

example_47 : shown_within 0 9 (codes "(int)a") ≡ codes "none"
unfolding level within
example_47 = refl

example_48 : shown_within 1 9 (codes "f()") ≡ codes "f()"
unfolding level within
example_48 = refl

example_49 : shown_within 9 2 (codes "--a") ≡ codes "(--a)"
unfolding level within
example_49 = refl

example_50 : shown_within 9 3 (codes "!!a") ≡ codes "(!(!a))"
unfolding level within
example_50 = refl

example_51 : shown_within 9 2 (codes "!!a") ≡ codes "none"
unfolding level within
example_51 = refl

example_52 : shown_within 9 2 (codes "(a)+b") ≡ codes "(a+b)"
unfolding level within
example_52 = refl

example_53 : shown_within 9 2 (codes "a+b+c") ≡ codes "none"
unfolding level within
example_53 = refl

example_54 : shown_within 9 3 (codes "a+b+c") ≡ codes "((a+b)+c)"
unfolding level within
example_54 = refl

example_55 : shown (codes "a[b][c, d] + a[0]") ≡ codes "(a[b][(c,d)]+a[0])"
unfolding level within
example_55 = refl
