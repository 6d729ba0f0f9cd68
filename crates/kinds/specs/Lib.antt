pub mod Obeys
pub mod CameLaws
pub mod SeenLaws
pub mod SessionLaws
pub mod GrowLaws
pub mod ExchangeLaws
