pub mod TermLaws
