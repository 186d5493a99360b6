-- SPDX-License-Identifier: MPL-2.0
pub mod Ways
pub mod Telling
