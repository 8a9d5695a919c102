pub mod HeadLaws
pub mod ValueLaws
pub mod ContentLaws
pub mod FirstLaws
pub mod WireLaws
