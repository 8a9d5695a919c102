pub mod SaidLaws
