-- Small sources and their items; or the place of the first item that fits no form.
use Rattle.std.specs.Prelude.{◌≡◌, refl, codes}
use Rattle.c_parser.specs.ReadExpressions.{level, within}
use Rattle.c_parser.specs.ReadStatements.{rows_within, header_within, statement_level, braced_within, armed_within}
use Rattle.grammar_examples.specs.Shown.{items, items_within}

-- functions and their parameters

example_0 : items (codes "int f() { }") ≡ codes "int f(){}|"
unfolding level within rows_within header_within statement_level braced_within armed_within
example_0 = refl

example_1 : items (codes "void f(void) {}") ≡ codes "void f(){}|"
unfolding level within rows_within header_within statement_level braced_within armed_within
example_1 = refl

example_2 : items (codes "static inline long g(int a, const unsigned char b) { ; }") ≡ codes "long g(int a;uchar b;){;}|"
unfolding level within rows_within header_within statement_level braced_within armed_within
example_2 = refl

example_3 : items (codes "int f(int) {}") ≡ codes "syntax 01"
unfolding level within rows_within header_within statement_level braced_within armed_within
example_3 = refl

example_4 : items (codes "int f(void a) {}") ≡ codes "syntax 01"
unfolding level within rows_within header_within statement_level braced_within armed_within
example_4 = refl

example_5 : items (codes "int f(a) int a; {}") ≡ codes "syntax 17"
unfolding level within rows_within header_within statement_level braced_within armed_within
example_5 = refl

example_6 : items (codes "f() {}") ≡ codes "syntax 01"
unfolding level within rows_within header_within statement_level braced_within armed_within
example_6 = refl

example_7 : items (codes "int f() __attribute__((noinline)) __asm__(\"f\") {}") ≡ codes "int f(){}|"
unfolding level within rows_within header_within statement_level braced_within armed_within
example_7 = refl

-- `reach_error` with any body

example_8 : items (codes "void reach_error() { __assert_fail(\"0\", 3); }") ≡ codes ""
unfolding level within rows_within header_within statement_level braced_within armed_within
example_8 = refl

example_9 : items (codes "void reach_error(struct s * p) { goto x; { [ ( ) ] } }") ≡ codes ""
unfolding level within rows_within header_within statement_level braced_within armed_within
example_9 = refl

example_10 : items (codes "void reach_error() { [ ) ] }") ≡ codes "syntax 01"
unfolding level within rows_within header_within statement_level braced_within armed_within
example_10 = refl

-- prototypes

example_11 : items (codes "int f(); int g(void); void h(int, char c, long long);") ≡ codes "proto int f(unstated)|proto int g()|proto void h(int;char;llong;)|"
unfolding level within rows_within header_within statement_level braced_within armed_within
example_11 = refl

example_12 : items (codes "extern void exit(int) __attribute__((__noreturn__));") ≡ codes "proto void exit(int;)|"
unfolding level within rows_within header_within statement_level braced_within armed_within
example_12 = refl

example_13 : items (codes "extern void abort(void) __attribute__((a(b), c)) __attribute__((d));") ≡ codes "proto void abort()|"
unfolding level within rows_within header_within statement_level braced_within armed_within
example_13 = refl

example_14 : items (codes "void reach_error(void); ;") ≡ codes ""
unfolding level within rows_within header_within statement_level braced_within armed_within
example_14 = refl

-- globals

example_15 : items (codes "int x = 1, y[3] = {1, 2, 3}; static unsigned long z;") ≡ codes "global int x=1;int y[3]={1;2;3;};|global ulong z;|"
unfolding level within rows_within header_within statement_level braced_within armed_within
example_15 = refl

example_16 : items (codes "int x __attribute__((unused));") ≡ codes "syntax 01"
unfolding level within rows_within header_within statement_level braced_within armed_within
example_16 = refl

example_17 : items (codes "void x;") ≡ codes "syntax 01"
unfolding level within rows_within header_within statement_level braced_within armed_within
example_17 = refl

-- type words in any order

example_18 : items (codes "long unsigned int long a; int short b; signed c; char unsigned d; _Bool e;") ≡ codes "global ullong a;|global short b;|global int c;|global uchar d;|global bool e;|"
unfolding level within rows_within header_within statement_level braced_within armed_within
example_18 = refl

example_19 : items (codes "signed long int a; unsigned signed b;") ≡ codes "syntax 20"
unfolding level within rows_within header_within statement_level braced_within armed_within
example_19 = refl

-- closed items

example_20 : items (codes "extern void f(const char *, ...);") ≡ codes "closed f|"
unfolding level within rows_within header_within statement_level braced_within armed_within
example_20 = refl

example_21 : items (codes "struct s f(struct s *, int [3]) __attribute__((x));") ≡ codes "closed f|"
unfolding level within rows_within header_within statement_level braced_within armed_within
example_21 = refl

example_22 : items (codes "int f(const void);") ≡ codes "closed f|"
unfolding level within rows_within header_within statement_level braced_within armed_within
example_22 = refl

example_23 : items (codes "int f(void x);") ≡ codes "closed f|"
unfolding level within rows_within header_within statement_level braced_within armed_within
example_23 = refl

example_24 : items (codes "extern int printf(const char *s, ...) __asm__(\"p\");") ≡ codes "closed printf|"
unfolding level within rows_within header_within statement_level braced_within armed_within
example_24 = refl

example_25 : items (codes "__attribute__((x)) f(a);") ≡ codes "closed f|"
unfolding level within rows_within header_within statement_level braced_within armed_within
example_25 = refl

example_26 : items (codes "(x)(y) f (z;);") ≡ codes "closed f|"
unfolding level within rows_within header_within statement_level braced_within armed_within
example_26 = refl

example_27 : items (codes "typedef int f(int);") ≡ codes "syntax 01"
unfolding level within rows_within header_within statement_level braced_within armed_within
example_27 = refl

example_28 : items (codes "int f('c' *);") ≡ codes "syntax 01"
unfolding level within rows_within header_within statement_level braced_within armed_within
example_28 = refl

example_29 : items (codes "int (*f)(int);") ≡ codes "closed int|"
unfolding level within rows_within header_within statement_level braced_within armed_within
example_29 = refl

example_30 : items (codes "int f([)] *);") ≡ codes "syntax 01"
unfolding level within rows_within header_within statement_level braced_within armed_within
example_30 = refl

example_31 : items (codes "int f(int *); int g()") ≡ codes "syntax 15"
unfolding level within rows_within header_within statement_level braced_within armed_within
example_31 = refl

example_named_twice : items (codes "int f(), g();") ≡ codes "closed f|"
unfolding level within rows_within header_within statement_level braced_within armed_within
example_named_twice = refl

-- the first item that fits no form

example_32 : items (codes "int a; int b int c;") ≡ codes "syntax 08"
unfolding level within rows_within header_within statement_level braced_within armed_within
example_32 = refl

example_33 : items (codes "int f() { return 1 }") ≡ codes "syntax 01"
unfolding level within rows_within header_within statement_level braced_within armed_within
example_33 = refl

example_34 : items (codes ";;") ≡ codes ""
unfolding level within rows_within header_within statement_level braced_within armed_within
example_34 = refl

-- limits

example_35 : items_within 2 2 (codes "int f() { a; }") ≡ codes "syntax 01"
unfolding level within rows_within header_within statement_level braced_within armed_within
example_35 = refl

example_36 : items_within 2 3 (codes "int f() { a; }") ≡ codes "int f(){a;}|"
unfolding level within rows_within header_within statement_level braced_within armed_within
example_36 = refl

example_37 : items_within 2 9 (codes "int f() { { a; } }") ≡ codes "int f(){{a;}}|"
unfolding level within rows_within header_within statement_level braced_within armed_within
example_37 = refl

example_38 : items_within 1 9 (codes "int f() { { a; } }") ≡ codes "syntax 01"
unfolding level within rows_within header_within statement_level braced_within armed_within
example_38 = refl

example_39 : items_within 9 3 (codes "int f() { { a; } }") ≡ codes "syntax 01"
unfolding level within rows_within header_within statement_level braced_within armed_within
example_39 = refl

example_40 : items_within 9 3 (codes "int f() { int a = b; }") ≡ codes "int f(){int a=b;}|"
unfolding level within rows_within header_within statement_level braced_within armed_within
example_40 = refl

example_41 : items_within 9 2 (codes "int f() { int a = b; }") ≡ codes "syntax 01"
unfolding level within rows_within header_within statement_level braced_within armed_within
example_41 = refl

example_42 : items_within 0 1 (codes "int x = 1;") ≡ codes "global int x=1;|"
unfolding level within rows_within header_within statement_level braced_within armed_within
example_42 = refl

example_43 : items_within 0 1 (codes "int x = -1;") ≡ codes "syntax 01"
unfolding level within rows_within header_within statement_level braced_within armed_within
example_43 = refl

example_44 : items_within 1 2 (codes "int x[2] = {-1};") ≡ codes "global int x[2]={(-1);};|"
unfolding level within rows_within header_within statement_level braced_within armed_within
example_44 = refl

example_45 : items_within 0 9 (codes "int f();") ≡ codes "syntax 01"
unfolding level within rows_within header_within statement_level braced_within armed_within
example_45 = refl

example_46 : items_within 2 9 (codes "int f((*)(a));") ≡ codes "closed f|"
unfolding level within rows_within header_within statement_level braced_within armed_within
example_46 = refl

example_47 : items_within 1 9 (codes "int f((*)(a));") ≡ codes "syntax 01"
unfolding level within rows_within header_within statement_level braced_within armed_within
example_47 = refl

example_48 : items_within 3 9 (codes "void reach_error() { [()] }") ≡ codes ""
unfolding level within rows_within header_within statement_level braced_within armed_within
example_48 = refl

example_49 : items_within 2 9 (codes "void reach_error() { [()] }") ≡ codes "syntax 01"
unfolding level within rows_within header_within statement_level braced_within armed_within
example_49 = refl

-- the braces of a `switch` and of a row are brackets; case constants and values of rows are parts

example_50 : items_within 1 9 (codes "int f() { switch (a) { } }") ≡ codes "syntax 01"
unfolding level within rows_within header_within statement_level braced_within armed_within
example_50 = refl

example_51 : items_within 2 9 (codes "int f() { switch (a) { } }") ≡ codes "int f(){switch a{}}|"
unfolding level within rows_within header_within statement_level braced_within armed_within
example_51 = refl

example_52 : items_within 9 2 (codes "int f() { switch (a) { case 1: } }") ≡ codes "syntax 01"
unfolding level within rows_within header_within statement_level braced_within armed_within
example_52 = refl

example_53 : items_within 9 3 (codes "int f() { switch (a) { case 1: b; } }") ≡ codes "syntax 01"
unfolding level within rows_within header_within statement_level braced_within armed_within
example_53 = refl

example_54 : items_within 9 4 (codes "int f() { switch (a) { case 1: b; } }") ≡ codes "int f(){switch a{case 1:b;}}|"
unfolding level within rows_within header_within statement_level braced_within armed_within
example_54 = refl

example_55 : items_within 9 3 (codes "int f() { switch (a) { case -1: ; } }") ≡ codes "syntax 01"
unfolding level within rows_within header_within statement_level braced_within armed_within
example_55 = refl

example_56 : items_within 9 4 (codes "int f() { switch (a) { case -1: ; } }") ≡ codes "int f(){switch a{case (-1):;}}|"
unfolding level within rows_within header_within statement_level braced_within armed_within
example_56 = refl

example_57 : items_within 1 9 (codes "int x[1][1] = {{1}};") ≡ codes "syntax 01"
unfolding level within rows_within header_within statement_level braced_within armed_within
example_57 = refl

example_58 : items_within 2 9 (codes "int x[1][1] = {{1}};") ≡ codes "global int x[1][1]={{1;}};|"
unfolding level within rows_within header_within statement_level braced_within armed_within
example_58 = refl

example_59 : items_within 9 1 (codes "int x[1][1] = {{-1}};") ≡ codes "syntax 01"
unfolding level within rows_within header_within statement_level braced_within armed_within
example_59 = refl

example_60 : items_within 9 2 (codes "int x[1][1] = {{-1}};") ≡ codes "global int x[1][1]={{(-1);}};|"
unfolding level within rows_within header_within statement_level braced_within armed_within
example_60 = refl
