-- Odd texts: what reads like one form and is another, or none.
use Rattle.std.specs.Prelude.{◌≡◌, refl, codes}
use Rattle.c_parser.specs.ReadExpressions.{level, within}
use Rattle.c_parser.specs.ReadStatements.{rows_within, header_within, statement_level, braced_within, armed_within}
use Rattle.grammar_examples.specs.Shown.{items, shown}

-- `else` belongs to the nearest `if` through labels and loops

example_0 : items (codes "int f() { if (a) if (b) c; else d; else e; }") ≡ codes "int f(){if a [if b [c;] else [d;]] else [e;]}|"
unfolding level within rows_within header_within statement_level braced_within armed_within
example_0 = refl

example_1 : items (codes "int f() { if (a) l: if (b) c; else d; }") ≡ codes "int f(){if a [l:[if b [c;] else [d;]]]}|"
unfolding level within rows_within header_within statement_level braced_within armed_within
example_1 = refl

example_2 : items (codes "int f() { if (a) do if (b) c; while (d); else e; }") ≡ codes "int f(){if a [do [if b [c;]] while d] else [e;]}|"
unfolding level within rows_within header_within statement_level braced_within armed_within
example_2 = refl

example_3 : items (codes "int f() { if (a) for (;;) if (b) c; else d; }") ≡ codes "int f(){if a [for ;; [if b [c;] else [d;]]]}|"
unfolding level within rows_within header_within statement_level braced_within armed_within
example_3 = refl

-- statements

example_4 : items (codes "int f() { x ? y : z = 1; }") ≡ codes "syntax 01"
unfolding level within rows_within header_within statement_level braced_within armed_within
example_4 = refl

example_5 : items (codes "int f() { int a, *b; }") ≡ codes "syntax 01"
unfolding level within rows_within header_within statement_level braced_within armed_within
example_5 = refl

example_6 : items (codes "int main() { return 0; };") ≡ codes "int main(){return 0;}|"
unfolding level within rows_within header_within statement_level braced_within armed_within
example_6 = refl

example_7 : items (codes "int f() { { int g; } ; }") ≡ codes "int f(){{int g;};}|"
unfolding level within rows_within header_within statement_level braced_within armed_within
example_7 = refl

example_8 : items (codes "int f() { for (int i = 0) ; }") ≡ codes "syntax 01"
unfolding level within rows_within header_within statement_level braced_within armed_within
example_8 = refl

example_9 : items (codes "int f() { for (i = 0, j = 1; ; ) { } }") ≡ codes "int f(){for ((i=0),(j=1));; [{}]}|"
unfolding level within rows_within header_within statement_level braced_within armed_within
example_9 = refl

example_10 : items (codes "int f() { for (a; b; ) ; for (; ; c, d) ; }") ≡ codes "int f(){for a;b; [;]for ;;(c,d) [;]}|"
unfolding level within rows_within header_within statement_level braced_within armed_within
example_10 = refl

example_11 : items (codes "int f() { do ; while (0) }") ≡ codes "syntax 01"
unfolding level within rows_within header_within statement_level braced_within armed_within
example_11 = refl

example_12 : items (codes "int f() { return (a); (void)0; }") ≡ codes "int f(){return a;(void:0);}|"
unfolding level within rows_within header_within statement_level braced_within armed_within
example_12 = refl

example_13 : items (codes "int f() { g(\"x\"); }") ≡ codes "syntax 01"
unfolding level within rows_within header_within statement_level braced_within armed_within
example_13 = refl

example_14 : items (codes "int f() { (g)(a); }") ≡ codes "syntax 01"
unfolding level within rows_within header_within statement_level braced_within armed_within
example_14 = refl

example_15 : items (codes "int f() { int : a; }") ≡ codes "syntax 01"
unfolding level within rows_within header_within statement_level braced_within armed_within
example_15 = refl

example_16 : items (codes "int f() { while: ; }") ≡ codes "syntax 01"
unfolding level within rows_within header_within statement_level braced_within armed_within
example_16 = refl

example_17 : items (codes "int f() { a: ; b: c: { } }") ≡ codes "int f(){a:[;]b:[c:[{}]]}|"
unfolding level within rows_within header_within statement_level braced_within armed_within
example_17 = refl

-- specifiers and attributes, in any order and as often as one likes; type words only as a row of the table has them

example_18 : items (codes "int int x;") ≡ codes "syntax 01"
unfolding level within rows_within header_within statement_level braced_within armed_within
example_18 = refl

example_19 : items (codes "long long long x;") ≡ codes "syntax 01"
unfolding level within rows_within header_within statement_level braced_within armed_within
example_19 = refl

example_20 : items (codes "const const int x;") ≡ codes "global int x;|"
unfolding level within rows_within header_within statement_level braced_within armed_within
example_20 = refl

example_21 : items (codes "static extern inline register auto int x;") ≡ codes "global int x;|"
unfolding level within rows_within header_within statement_level braced_within armed_within
example_21 = refl

example_22 : items (codes "int;") ≡ codes "syntax 01"
unfolding level within rows_within header_within statement_level braced_within armed_within
example_22 = refl

example_23 : items (codes "int f() { __attribute__((unused)) int a; }") ≡ codes "int f(){int a;}|"
unfolding level within rows_within header_within statement_level braced_within armed_within
example_23 = refl

example_24 : items (codes "int f() { int a __attribute__((unused)); }") ≡ codes "syntax 01"
unfolding level within rows_within header_within statement_level braced_within armed_within
example_24 = refl

example_25 : items (codes "int f() { __attribute__((fallthrough)); }") ≡ codes "syntax 01"
unfolding level within rows_within header_within statement_level braced_within armed_within
example_25 = refl

example_26 : items (codes "inline int x; _Noreturn void f(void);") ≡ codes "global int x;|proto void f()|"
unfolding level within rows_within header_within statement_level braced_within armed_within
example_26 = refl

example_27 : items (codes "int volatile x;") ≡ codes "syntax 01"
unfolding level within rows_within header_within statement_level braced_within armed_within
example_27 = refl

example_28 : items (codes "int f() { auto x; }") ≡ codes "syntax 01"
unfolding level within rows_within header_within statement_level braced_within armed_within
example_28 = refl

example_29 : items (codes "int f() { const a; }") ≡ codes "syntax 01"
unfolding level within rows_within header_within statement_level braced_within armed_within
example_29 = refl

-- declarations in blocks

example_30 : items (codes "int f() { typedef int t; }") ≡ codes "syntax 01"
unfolding level within rows_within header_within statement_level braced_within armed_within
example_30 = refl

example_31 : items (codes "int f() { struct s x; }") ≡ codes "syntax 01"
unfolding level within rows_within header_within statement_level braced_within armed_within
example_31 = refl

example_32 : items (codes "int f() { int a = b = c, d; }") ≡ codes "int f(){int a=(b=c);int d;}|"
unfolding level within rows_within header_within statement_level braced_within armed_within
example_32 = refl

example_33 : items (codes "int f() { unsigned a, b[2] = {1}, c = 3; }") ≡ codes "int f(){uint a;uint b[2]={1;};uint c=3;}|"
unfolding level within rows_within header_within statement_level braced_within armed_within
example_33 = refl

-- sizes and initializers

example_34 : items (codes "int x[1, 2];") ≡ codes "syntax 01"
unfolding level within rows_within header_within statement_level braced_within armed_within
example_34 = refl

example_35 : items (codes "int x[(a = 1)];") ≡ codes "global int x[(a=1)];|"
unfolding level within rows_within header_within statement_level braced_within armed_within
example_35 = refl

example_36 : items (codes "int x = (1, 2), y = 3;") ≡ codes "global int x=(1,2);int y=3;|"
unfolding level within rows_within header_within statement_level braced_within armed_within
example_36 = refl

example_37 : items (codes "int x[2] = {1, {2}};") ≡ codes "syntax 01"
unfolding level within rows_within header_within statement_level braced_within armed_within
example_37 = refl

example_38 : items (codes "int x = {1};") ≡ codes "global int x={1;};|"
unfolding level within rows_within header_within statement_level braced_within armed_within
example_38 = refl

example_39 : items (codes "int x = {1,,};") ≡ codes "syntax 01"
unfolding level within rows_within header_within statement_level braced_within armed_within
example_39 = refl

example_40 : items (codes "int x[] = {1};") ≡ codes "syntax 01"
unfolding level within rows_within header_within statement_level braced_within armed_within
example_40 = refl

example_41 : items (codes "char x = 'a'; ") ≡ codes "global char x=char;|"
unfolding level within rows_within header_within statement_level braced_within armed_within
example_41 = refl

-- prototypes and parameters

example_42 : items (codes "int f(int a, int b[]);") ≡ codes "closed f|"
unfolding level within rows_within header_within statement_level braced_within armed_within
example_42 = refl

example_43 : items (codes "int f(int a, int b[]) {}") ≡ codes "syntax 01"
unfolding level within rows_within header_within statement_level braced_within armed_within
example_43 = refl

example_44 : items (codes "int f(int a, ...) {}") ≡ codes "syntax 01"
unfolding level within rows_within header_within statement_level braced_within armed_within
example_44 = refl

example_45 : items (codes "int f(const int a, int const b, register unsigned) {}") ≡ codes "syntax 01"
unfolding level within rows_within header_within statement_level braced_within armed_within
example_45 = refl

example_46 : items (codes "int f(const int, int const b, register unsigned);") ≡ codes "proto int f(int;int;uint;)|"
unfolding level within rows_within header_within statement_level braced_within armed_within
example_46 = refl

example_47 : items (codes "int f(__attribute__((x)) int a) __asm__(\"f\");") ≡ codes "proto int f(int;)|"
unfolding level within rows_within header_within statement_level braced_within armed_within
example_47 = refl

example_48 : items (codes "int f(int x, int y) { return x; } f();") ≡ codes "int f(int x;int y;){return x;}|closed f|"
unfolding level within rows_within header_within statement_level braced_within armed_within
example_48 = refl

-- what no other form takes, closed or not

example_49 : items (codes "int x = 1, f(int);") ≡ codes "syntax 01"
unfolding level within rows_within header_within statement_level braced_within armed_within
example_49 = refl

example_50 : items (codes "int x, f(int);") ≡ codes "closed f|"
unfolding level within rows_within header_within statement_level braced_within armed_within
example_50 = refl

example_51 : items (codes "int f __attribute__((x)) (int);") ≡ codes "syntax 01"
unfolding level within rows_within header_within statement_level braced_within armed_within
example_51 = refl

example_52 : items (codes "extern void reach_error(const char *);") ≡ codes "closed reach_error|"
unfolding level within rows_within header_within statement_level braced_within armed_within
example_52 = refl

example_53 : items (codes "reach_error() {}") ≡ codes "syntax 01"
unfolding level within rows_within header_within statement_level braced_within armed_within
example_53 = refl

example_54 : items (codes "const reach_error() {}") ≡ codes "syntax 01"
unfolding level within rows_within header_within statement_level braced_within armed_within
example_54 = refl

example_55 : items (codes "_Static_assert(1, \"x\");") ≡ codes "closed _Static_assert|"
unfolding level within rows_within header_within statement_level braced_within armed_within
example_55 = refl

example_56 : items (codes "__attribute__((x));") ≡ codes "syntax 01"
unfolding level within rows_within header_within statement_level braced_within armed_within
example_56 = refl

example_57 : items (codes "__extension__ typedef int f(int);") ≡ codes "closed f|"
unfolding level within rows_within header_within statement_level braced_within armed_within
example_57 = refl

example_58 : items (codes "int f(int,);") ≡ codes "closed f|"
unfolding level within rows_within header_within statement_level braced_within armed_within
example_58 = refl

example_59 : items (codes "int f(void, int);") ≡ codes "closed f|"
unfolding level within rows_within header_within statement_level braced_within armed_within
example_59 = refl

example_60 : items (codes "int f(int, void);") ≡ codes "closed f|"
unfolding level within rows_within header_within statement_level braced_within armed_within
example_60 = refl

example_61 : items (codes "int f(int if);") ≡ codes "closed f|"
unfolding level within rows_within header_within statement_level braced_within armed_within
example_61 = refl

example_62 : items (codes "int if(int);") ≡ codes "closed if|"
unfolding level within rows_within header_within statement_level braced_within armed_within
example_62 = refl

example_63 : items (codes "int if;") ≡ codes "syntax 01"
unfolding level within rows_within header_within statement_level braced_within armed_within
example_63 = refl

example_64 : items (codes "void f(), *g();") ≡ codes "closed f|"
unfolding level within rows_within header_within statement_level braced_within armed_within
example_64 = refl

example_65 : items (codes "extern int (isalpha)(int);") ≡ codes "closed int|"
unfolding level within rows_within header_within statement_level braced_within armed_within
example_65 = refl

example_66 : items (codes "int f(int (*)(int), struct s *, int [3]);") ≡ codes "closed f|"
unfolding level within rows_within header_within statement_level braced_within armed_within
example_66 = refl

example_67 : items (codes "struct s { int x; };") ≡ codes "syntax 01"
unfolding level within rows_within header_within statement_level braced_within armed_within
example_67 = refl

-- where the first item that fits no form begins

example_68 : items (codes "int a; ; typedef int t; int b;") ≡ codes "syntax 10"
unfolding level within rows_within header_within statement_level braced_within armed_within
example_68 = refl

example_69 : items (codes "void f(void) { return; } int g") ≡ codes "syntax 26"
unfolding level within rows_within header_within statement_level braced_within armed_within
example_69 = refl

-- expressions

example_70 : shown (codes "a ? b ? c : d : e") ≡ codes "(a?(b?c:d):e)"
unfolding level within
example_70 = refl

example_71 : shown (codes "x++ = 1") ≡ codes "((x++)=1)"
unfolding level within
example_71 = refl

example_72 : shown (codes "++x = 1") ≡ codes "((++x)=1)"
unfolding level within
example_72 = refl

example_73 : shown (codes "-(int)x = 1") ≡ codes "((-(int:x))=1)"
unfolding level within
example_73 = refl

example_74 : shown (codes "1++") ≡ codes "(1++)"
unfolding level within
example_74 = refl

example_75 : shown (codes "f()++") ≡ codes "(f()++)"
unfolding level within
example_75 = refl

example_76 : shown (codes "a++[1]") ≡ codes "rest"
unfolding level within
example_76 = refl

example_77 : shown (codes "a+++b") ≡ codes "((a++)+b)"
unfolding level within
example_77 = refl

example_78 : shown (codes "a- --b") ≡ codes "(a-(--b))"
unfolding level within
example_78 = refl

example_79 : shown (codes "(int)x++ + 1") ≡ codes "((int:(x++))+1)"
unfolding level within
example_79 = refl

example_80 : shown (codes "(int)(x, y)") ≡ codes "(int:(x,y))"
unfolding level within
example_80 = refl

example_81 : shown (codes "!(a) = b") ≡ codes "((!a)=b)"
unfolding level within
example_81 = refl

example_82 : shown (codes "a = b ? c = d : e") ≡ codes "(a=(b?(c=d):e))"
unfolding level within
example_82 = refl

example_83 : shown (codes "a, b ? c, d : e, f") ≡ codes "((a,(b?(c,d):e)),f)"
unfolding level within
example_83 = refl

example_84 : shown (codes "f(a = 1, (b, c), d ? e : g)") ≡ codes "f((a=1);(b,c);(d?e:g);)"
unfolding level within
example_84 = refl

example_85 : shown (codes "a < b < c") ≡ codes "((a<b)<c)"
unfolding level within
example_85 = refl

example_86 : shown (codes "a && b || c && d") ≡ codes "((a&&b)||(c&&d))"
unfolding level within
example_86 = refl

example_87 : shown (codes "(int const)x") ≡ codes "(int:x)"
unfolding level within
example_87 = refl

example_88 : shown (codes "(long long unsigned int const)x") ≡ codes "(ullong:x)"
unfolding level within
example_88 = refl

example_89 : shown (codes "(__const int)x") ≡ codes "none"
unfolding level within
example_89 = refl

example_90 : shown (codes "sizeof(int)") ≡ codes "none"
unfolding level within
example_90 = refl

example_91 : shown (codes "(int[])x") ≡ codes "none"
unfolding level within
example_91 = refl

example_92 : shown (codes "&x") ≡ codes "none"
unfolding level within
example_92 = refl

example_93 : shown (codes "*x") ≡ codes "none"
unfolding level within
example_93 = refl

example_94 : shown (codes "\"s\"") ≡ codes "none"
unfolding level within
example_94 = refl

example_95 : shown (codes "a ? : b") ≡ codes "none"
unfolding level within
example_95 = refl

example_96 : shown (codes "a[]") ≡ codes "none"
unfolding level within
example_96 = refl

example_97 : shown (codes "a =") ≡ codes "none"
unfolding level within
example_97 = refl

example_98 : shown (codes "(a, )") ≡ codes "none"
unfolding level within
example_98 = refl

example_99 : shown (codes "a ? b : c, d") ≡ codes "((a?b:c),d)"
unfolding level within
example_99 = refl

example_100 : shown (codes "a + (int)b * c") ≡ codes "(a+((int:b)*c))"
unfolding level within
example_100 = refl

example_101 : shown (codes "a * -b") ≡ codes "(a*(-b))"
unfolding level within
example_101 = refl

example_102 : shown (codes "a *= b += c ? d : e") ≡ codes "(a*=(b+=(c?d:e)))"
unfolding level within
example_102 = refl
